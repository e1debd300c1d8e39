use Rattle.xr_print.proofs.Whole.{text_pushed}
use Rattle.xr_print.proofs.array.array_text.Goals as goal

pub returns : goal.returns
returns c =
    text_pushed c.args.array.now c.args.cells.now c.as_slice-axes.result.now c.as_slice.result.now c.as_slice-2.result.now c.row_size.result c.new-out.result.items c.push_head.new.out.items c.push_cell_lines.new.out.items c.push_coords.new.out.items c.push_attrs.new.out.items
    c.as_slice-axes.ensures c.as_slice.ensures c.as_slice-2.ensures c.requires.kind c.row_size.ensures c.new-out.ensures.items c.in_ok-push_head.ensures c.in_ok-push_cell_lines.ensures c.in_ok-push_coords.ensures c.in_ok-push_attrs.ensures
