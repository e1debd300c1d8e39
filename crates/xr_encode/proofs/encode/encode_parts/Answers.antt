use Rattle.std.proofs.Common.{map, sym, ap, ◌∙◌}
use Rattle.xr_types.specs.Results.{all_of}
use Rattle.xr_defs.specs.Encoding.{check_fit}
use Rattle.xr_encode.specs.declared.parts.Parts.{Parts}
use Rattle.xr_encode.specs.Outlines.{without_cells}
use Rattle.xr_encode.proofs.Told.{parts_fit}
use Rattle.xr_encode.proofs.encode.encode_parts.Goals as goal

pub frame_of-requires : goal.frame_of-requires
frame_of-requires g c = parts_fit c.args.set.now c.args.parts.now c.args.options.now c.in_ok-check_parts.ensures

pub vars_of-requires-clause-fit : goal.vars_of-requires-clause-fit
vars_of-requires-clause-fit g c κs longer =
    ap (λ (p : Parts). all_of (check_fit c.args.options.now) (map without_cells p.outlines)) (sym c.requires.parts) ∙ parts_fit c.args.set.now c.args.parts.now c.args.options.now c.in_ok-check_parts.ensures
