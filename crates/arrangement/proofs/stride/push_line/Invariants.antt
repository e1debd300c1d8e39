use Rattle.std.proofs.Common.{◌≡◌, ◌++◌, [], ◌∷◌}
use Rattle.plan_core.specs.Strides.{strided}
use Rattle.arrangement.proofs.stride.push_line.Given as goal

abbrev pub invariant-loop-i : goal.invariant-loop-i
invariant-loop-i g l = (other : g.row.T.Denot) → l.out.items ≡ l.fn.out.items ++ strided (l.i ∷ []) (l.stride ∷ []) l.start other l.cells
