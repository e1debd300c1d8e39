use Rattle.std.proofs.Common.{◌≡◌, map, drop}
use Rattle.xr_operations.specs.Alignment as alignment
use Rattle.xr_chaining.proofs.labels.common_kind.Given as goal

abbrev pub invariant-loop-other : goal.invariant-loop-other
invariant-loop-other l = alignment.common_kind l.common (alignment.listed (map (λ x. x.now) (drop l.other-index l.others))) ≡ alignment.common_kind l.fn.kind (alignment.listed (map (λ x. x.now) l.others))
