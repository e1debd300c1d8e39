use Rattle.std.proofs.Common.{◌≡◌, ◌<◌, ℕ, length, get_or, take}
use Rattle.stored_cells.specs.Masks.{mark}
use Rattle.stored_cells.proofs.masks.mask_row.Given as goal

abbrev pub invariant-loop-fill : goal.invariant-loop-fill
invariant-loop-fill g l = record {
  long : length l.mask.items ≡ length l.cells;
  marked : (i : ℕ) (x : _) → i < length l.cells → get_or l.mask.items i 0 ≡ mark (take l.fill-index l.fills) (g.T.Elem.number (get_or l.cells i x));
}
