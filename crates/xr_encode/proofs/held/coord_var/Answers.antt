use Rattle.std.proofs.Common.{ap, ◌∙◌}
use Rattle.xr_defs.specs.Encoding.{check_fit, stored_coord}
use Rattle.xr_encode.specs.Outlines.{without_cells}
use Rattle.xr_encode.proofs.Written.{same_fit}
use Rattle.xr_encode.proofs.held.coord_var.Goals as goal

pub array_var-requires-clause-fit : goal.array_var-requires-clause-fit
array_var-requires-clause-fit c =
    ap (λ o. check_fit c.args.options.now (without_cells o)) c.in_ok-outline.ensures ∙ same_fit c.args.options.now (stored_coord c.args.coord.now) ∙ c.requires.fit
