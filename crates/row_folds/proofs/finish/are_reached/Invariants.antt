use Rattle.std.proofs.Common.{◌≡◌, ◌<◌, ℕ, true, get_or}
use Rattle.row_folds.proofs.finish.are_reached.Given as goal

abbrev pub invariant-loop-i : goal.invariant-loop-i
invariant-loop-i g l = l.all ≡ true → (r : ℕ) (a : g.row.A.Denot) → r < l.i → ¬ (g.A.Extreme.extreme (get_or l.rows r a) ≡ g.T.Elem.number l.none)
