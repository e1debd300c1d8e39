use Rattle.std.proofs.Common.{◌≡◌, ◌++◌, map, drop}
use Rattle.plan_core.specs.Arrangements.{gap}
use Rattle.row_folds.proofs.outcome.mask.Given as goal

abbrev pub invariant-loop-i : goal.invariant-loop-i
invariant-loop-i g l = l.mask.items ++ map gap (drop l.i (g.R.Outcome.cells l.cells)) ≡ map gap (g.R.Outcome.cells l.cells)
