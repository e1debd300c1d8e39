use Rattle.std.proofs.Common.{◌≡◌, ◌+◌, ◌<◌, ◌≤◌, ℕ, get_or, ◌⊎◌}
use Rattle.std.specs.Prelude.{None}
use Rattle.strided_block.specs.Typed.{mask_byte}
use Rattle.strided_block.proofs.row.put_bytes.Given as goal

abbrev pub invariant-loop-i : goal.invariant-loop-i
invariant-loop-i l =
    ((i z : ℕ) → i < l.i → get_or l.all (l.at + i) z ≡ mask_byte (get_or l.cells i None))
    × ((k z : ℕ) → (k < l.at) ⊎ (l.at + l.i ≤ k) → get_or l.all k z ≡ get_or l.fn.all k z)
