use Rattle.std.proofs.Common.{◌≡◌, replicate}
use Rattle.row_folds.proofs.rows.starts.Given as goal

abbrev pub invariant-loop-i : goal.invariant-loop-i
invariant-loop-i g l = l.rows.items ≡ replicate l.i l.start
