use Rattle.std.proofs.Common.{◌≡◌, ◌++◌, drop, map, get_or}
use Rattle.arrangement.proofs.concatenate.positions.Given as goal

abbrev pub invariant-loop-a : goal.invariant-loop-a
invariant-loop-a l = l.counts.items ++ map (λ a. get_or a.now.shape l.axis 0) (drop l.a-index l.inputs) ≡ map (λ a. get_or a.now.shape l.axis 0) l.inputs
