use Rattle.std.proofs.Common.{ap, length, ◌/◌, ◌∙◌, ◌++◌}
use Rattle.xr_arrays.specs.Arrays.{Array}
use Rattle.xr_types.specs.Points.{size}
use Rattle.xr_defs.specs.Text.{rows_text}
use Rattle.xr_print.proofs.Pushed.{on_ok}
use Rattle.xr_print.proofs.Lines.{grid_shown}
use Rattle.xr_print.proofs.grid.push_cell_lines.Goals as goal

pub returns : goal.returns
returns c =
    let typed = c.in_ok-typed.typed in
    on_ok c.push_shown_lines.result _ _
    (λ e. e ∙ ap (λ t. c.args.out.now.items ++ t) (grid_shown typed.kind typed.cells c.parts.result.0.now c.parts.result.1 c.args.n (size typed.shape) c.parts.ensures.kind c.parts.ensures.cells c.parts.ensures.whole c.parts.ensures.mask)
    ∙ ap (λ (a : Array). c.args.out.now.items ++ rows_text a.kind (length a.cells / c.args.n) c.args.n a.cells) c.in_ok-typed.ensures)
    c.push_shown_lines.ensures
