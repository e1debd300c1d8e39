use Rattle.std.proofs.Common.{◌≡◌, ◌<◌, ℕ, get_or}
use Rattle.std.specs.Prelude.{None}
use Rattle.strided_block.specs.Typed.{mask_byte}
use Rattle.strided_block.proofs.row.some_missing.Given as goal

abbrev pub invariant-loop-i : goal.invariant-loop-i
invariant-loop-i l = (j : ℕ) → j < l.i → mask_byte (get_or l.cells j None) ≡ 0
