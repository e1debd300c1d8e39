use Rattle.std.proofs.Common.{◌≡◌, drop, is_none}
use Rattle.std.specs.List.{list_any}
use Rattle.row_folds.proofs.outcome.has_missing.Given as goal

abbrev pub invariant-loop-i : goal.invariant-loop-i
invariant-loop-i g l = list_any is_none (drop l.i (g.R.Outcome.cells l.cells)) ≡ list_any is_none (g.R.Outcome.cells l.cells)
