use Rattle.std.proofs.Common.{◌≡◌, drop}
use Rattle.std.specs.List.{list_any}
use Rattle.xr_defs.specs.Encoding.{coord_names}
use Rattle.xr_encode.specs.Checks.{has_blank}
use Rattle.xr_encode.proofs.check.have_blank.Given as goal

abbrev pub invariant-loop-coord : goal.invariant-loop-coord
invariant-loop-coord l = list_any has_blank (coord_names (drop l.coord-index l.coords)) ≡ list_any has_blank (coord_names l.coords)
