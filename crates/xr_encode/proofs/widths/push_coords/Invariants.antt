use Rattle.std.proofs.Common.{◌≡◌, drop, map}
use Rattle.std.specs.List.{filter_map}
use Rattle.xr_defs.specs.Encoding.{coord_width}
use Rattle.xr_encode.specs.Widths.{each_once_more}
use Rattle.xr_encode.proofs.widths.push_coords.Given as goal

abbrev pub invariant-loop-coord : goal.invariant-loop-coord
invariant-loop-coord l = each_once_more l.widths (filter_map coord_width (map (λ c. c.now) (drop l.coord-index l.coords))) ≡ each_once_more l.fn.widths (filter_map coord_width (map (λ c. c.now) l.coords))
