use Rattle.std.proofs.Common.{◌≡◌, drop, map}
use Rattle.std.specs.List.{list_all}
use Rattle.xr_operations.specs.Alignment.{are_kin}
use Rattle.align_join.proofs.kind.all_kin.Given as goal

abbrev pub invariant-loop-list : goal.invariant-loop-list
invariant-loop-list l = list_all (are_kin l.first) (map (λ x. x.now) (drop l.list-index l.others)) ≡ list_all (are_kin l.first) (map (λ x. x.now) l.others)
