use Rattle.std.proofs.Common.{◌≡◌, ◌<◌, ℕ, length, get_or}
use Rattle.row_folds.proofs.windows.clear.Given as goal

abbrev pub invariant-loop-i : goal.invariant-loop-i
invariant-loop-i g l = (length l.folds ≡ length l.fn.folds) × ((j : ℕ) (z : _) → j < l.i → get_or l.folds j z ≡ l.empty)
