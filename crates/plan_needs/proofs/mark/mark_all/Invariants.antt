use Rattle.std.proofs.Common.{◌≡◌, ◌≤◌, ◌<◌, ℕ, take, length, get_or, All}
use Rattle.plan_needs.proofs.mark.mark_all.Given as goal

abbrev pub invariant-loop-id : goal.invariant-loop-id
invariant-loop-id l = record {
  long : length l.until ≡ length l.fn.until;
  marked : All (λ m. l.user ≤ get_or l.until m 0) (take l.id-index l.ids);
  grows : (k : ℕ) → get_or l.fn.until k 0 ≤ get_or l.until k 0;
  others : (k : ℕ) → All (λ m. m < k) l.ids → get_or l.until k 0 ≡ get_or l.fn.until k 0;
}
