use Rattle.std.proofs.Common.{◌≡◌, ◌<◌, ℕ, get_or, length, true}
use Rattle.cell_strips.proofs.numbers.all_are.Given as goal

abbrev pub invariant-loop-i : goal.invariant-loop-i
invariant-loop-i g l = l.same ≡ true → (i : ℕ) (y : _) → i < l.i → g.T.Elem.number (get_or l.row i y) ≡ g.T.Elem.number l.cell
