use Rattle.std.proofs.Common.{◌≡◌, ◌-◌, ◌<◌, length, map, drop}
use Rattle.std.specs.List.{All}
use Rattle.xr_defs.specs.Printing.{by_name}
use Rattle.xr_print.specs.ByName.{coord_at}
use Rattle.xr_print.proofs.by_name.by_name.Given as goal

abbrev pub invariant-loop-done : goal.invariant-loop-done
invariant-loop-done l = record {
  inside : All (λ p. p < length l.coords) l.order.items;
  sorted : map (coord_at l.coords) l.order.items ≡ by_name (drop (length l.coords - l.done) l.coords);
}
