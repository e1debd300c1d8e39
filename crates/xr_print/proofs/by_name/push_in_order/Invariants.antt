use Rattle.std.proofs.Common.{◌≡◌, ◌++◌, map, drop}
use Rattle.std.specs.List.{flat_map}
use Rattle.xr_defs.specs.Printing.{coord_text}
use Rattle.xr_print.specs.ByName.{coord_at}
use Rattle.xr_print.proofs.by_name.push_in_order.Given as goal

abbrev pub invariant-loop-place : goal.invariant-loop-place
invariant-loop-place l = l.out.items ++ flat_map coord_text (map (coord_at l.coords) (drop l.place-index l.order)) ≡ l.fn.out.items ++ flat_map coord_text (map (coord_at l.coords) l.order)
