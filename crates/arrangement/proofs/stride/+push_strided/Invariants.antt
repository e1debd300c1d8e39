use Rattle.std.proofs.Common.{◌≡◌, ◌++◌, ◌+◌, ◌-◌, ◌∷◌, length, drop}
use Rattle.plan_core.specs.Strides.{strided}
use Rattle.arrangement.proofs.stride.+push_strided.Given as goal

abbrev pub decreases-push_strided : goal.decreases-push_strided
decreases-push_strided g l = length l.sizes.now - l.axis

abbrev pub invariant-loop-i : goal.invariant-loop-i
invariant-loop-i g l = (other : g.row.T.Denot) → l.out.items ≡ l.fn.out.items ++ strided (l.i ∷ drop (l.axis + 1) l.sizes) (l.stride ∷ drop (l.axis + 1) l.strides) l.start other l.cells
