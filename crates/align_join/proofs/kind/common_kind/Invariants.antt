use Rattle.std.proofs.Common.{◌≡◌, drop, map}
use Rattle.xr_operations.specs.Alignment.{common_kind}
use Rattle.align_join.proofs.kind.common_kind.Given as goal

abbrev pub invariant-loop-list : goal.invariant-loop-list
invariant-loop-list l = common_kind l.kind (map (λ x. x.now) (drop l.list-index l.lists)) ≡ common_kind l.fn.kind (map (λ x. x.now) l.lists)
