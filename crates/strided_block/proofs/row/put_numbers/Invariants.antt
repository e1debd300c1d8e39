use Rattle.std.proofs.Common.{◌≡◌, ◌+◌, ◌<◌, ◌≤◌, ℕ, get_or, ◌⊎◌}
use Rattle.std.specs.Prelude.{None}
use Rattle.strided_block.specs.Typed.{number_or_zero}
use Rattle.strided_block.proofs.row.put_numbers.Given as goal

abbrev pub invariant-loop-i : goal.invariant-loop-i
invariant-loop-i g l =
    ((i : ℕ) (z : _) → i < l.i → get_or l.all (l.at + i) z ≡ g.T.Elem.of (number_or_zero (get_or l.cells i None)))
    × ((k : ℕ) (z : _) → (k < l.at) ⊎ (l.at + l.i ≤ k) → get_or l.all k z ≡ get_or l.fn.all k z)
