use Rattle.std.proofs.Common.{◌≡◌, ◌<◌, ℕ, get_or, length}
use Rattle.cell_strips.proofs.rows.map_into.Given as goal

abbrev pub invariant-loop-i : goal.invariant-loop-i
invariant-loop-i g l = record {
  long : length l.out ≡ length l.a;
  cells : (i : ℕ) (x : _) (z : _) → i < l.i → goal.F-post g l.f (get_or l.a i x) (get_or l.out i z);
}
