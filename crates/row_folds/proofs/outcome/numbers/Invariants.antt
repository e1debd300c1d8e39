use Rattle.std.proofs.Common.{◌≡◌, ◌++◌, map, drop}
use Rattle.plan_core.specs.Arrangements.{filling}
use Rattle.row_folds.proofs.outcome.numbers.Given as goal

abbrev pub invariant-loop-i : goal.invariant-loop-i
invariant-loop-i g l = map g.O.Elem.number l.all.items ++ map filling (drop l.i (g.R.Outcome.cells l.cells)) ≡ map filling (g.R.Outcome.cells l.cells)
