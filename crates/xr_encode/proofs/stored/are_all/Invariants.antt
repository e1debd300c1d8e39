use Rattle.std.proofs.Common.{◌≡◌, drop}
use Rattle.std.specs.List.{list_all}
use Rattle.std.specs.Ordering.{int_eq}
use Rattle.xr_encode.proofs.stored.are_all.Given as goal

abbrev pub invariant-loop-fill : goal.invariant-loop-fill
invariant-loop-fill l = list_all (int_eq l.number) (drop l.fill-index l.fills) ≡ list_all (int_eq l.number) l.fills
