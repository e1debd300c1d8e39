use Rattle.std.proofs.Common.{◌≡◌, ◌++◌, map, take, drop}
use Rattle.xr_defs.specs.Printing.{put_coord}
use Rattle.xr_print.specs.ByName.{coord_at}
use Rattle.xr_print.proofs.by_name.place_for.Given as goal

abbrev pub invariant-loop-k : goal.invariant-loop-k
invariant-loop-k l = put_coord (coord_at l.coords l.i) (map (coord_at l.coords) l.order) ≡ map (coord_at l.coords) (take l.k l.order) ++ put_coord (coord_at l.coords l.i) (map (coord_at l.coords) (drop l.k l.order))
