use Rattle.std.proofs.Common.{◌≡◌, ◌<◌, ℕ, get_or}
use Rattle.core.specs.Mem.Slots.{slots_items, slots_filled, slots_ptr, slots_len}
use Rattle.core.specs.Mem.Slots.Ownership.{Filled}
use Rattle.strided_block.proofs.memory.fill_row.Given as goal

abbrev pub invariant-loop-i : goal.invariant-loop-i
invariant-loop-i g l = record {
  cells : (k : ℕ) (d : _) → k < l.i → get_or (slots_items l.row) k d ≡ l.cell;
  filled : Filled (slots_filled l.row) 0 l.i;
  place : slots_ptr l.row ≡ slots_ptr l.fn.row;
  count : slots_len l.row ≡ slots_len l.fn.row;
}
