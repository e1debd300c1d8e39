use Rattle.std.proofs.Common.{◌≡◌, ◌<◌, ◌≤◌, ℕ, get_or, if◌then◌else◌}
use Rattle.std.specs.Ordering.{int_eq}
use Rattle.stored_cells.proofs.masks.mark_row.Given as goal

abbrev pub invariant-loop-i : goal.invariant-loop-i
invariant-loop-i g l = record {
  done : (i : ℕ) (x : _) → i < l.i → get_or l.mask i 0 ≡ (if int_eq (g.T.Elem.number (get_or l.cells i x)) l.fill then 1 else get_or l.fn.mask i 0);
  left : (i : ℕ) → l.i ≤ i → get_or l.mask i 0 ≡ get_or l.fn.mask i 0;
}
