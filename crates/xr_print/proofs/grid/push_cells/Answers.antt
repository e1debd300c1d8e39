use Rattle.std.proofs.Common.{ap, map, ◌∙◌, ◌++◌}
use Rattle.xr_arrays.specs.Arrays.{Array}
use Rattle.xr_defs.specs.Text.{after_blanks, cell_text}
use Rattle.xr_print.proofs.Pushed.{on_ok}
use Rattle.xr_print.proofs.Lines.{texts_shown}
use Rattle.xr_print.proofs.grid.push_cells.Goals as goal

pub returns : goal.returns
returns c =
    let typed = c.in_ok-typed.typed in
    on_ok c.push_shown.result _ _
    (λ e. e ∙ ap (λ ts. c.args.out.now.items ++ after_blanks ts) (texts_shown typed.kind typed.cells c.parts.result.0.now c.parts.result.1 c.parts.ensures.kind c.parts.ensures.cells)
    ∙ ap (λ (a : Array). c.args.out.now.items ++ after_blanks (map (cell_text a.kind) a.cells)) c.in_ok-typed.ensures)
    c.push_shown.ensures
