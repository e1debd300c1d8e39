use Rattle.std.proofs.Common.{ap, map, ◌∙◌, ◌++◌}
use Rattle.std.specs.Fmt.{signed_decimal}
use Rattle.xr_defs.specs.Text.{after_blanks}
use Rattle.xr_print.proofs.Pushed.{on_ok}
use Rattle.xr_print.proofs.Lines.{shown_numbers}
use Rattle.xr_print.proofs.grid.push_numbers.Goals as goal

pub returns : goal.returns
returns c =
    on_ok c.push_shown.result _ _
    (λ e. e ∙ ap (λ ts. c.args.out.now.items ++ after_blanks ts) (shown_numbers c.args.kind c.in_ok-cells.cells c.requires c.in_ok-cells.ensures.kind)
    ∙ ap (λ ns. c.args.out.now.items ++ after_blanks (map signed_decimal ns)) c.in_ok-cells.ensures.values)
    c.push_shown.ensures
