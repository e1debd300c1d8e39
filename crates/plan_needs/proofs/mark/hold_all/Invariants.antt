use Rattle.std.proofs.Common.{◌≡◌, ◌<◌, ℕ, take, length, get_or, true, All}
use Rattle.plan_needs.proofs.mark.hold_all.Given as goal

abbrev pub invariant-loop-id : goal.invariant-loop-id
invariant-loop-id l = record {
  long : length l.whole ≡ length l.fn.whole;
  held : All (λ m. get_or l.whole m true ≡ true) (take l.id-index l.ids);
  grows : (k : ℕ) → get_or l.fn.whole k true ≡ true → get_or l.whole k true ≡ true;
  others : (k : ℕ) → All (λ m. m < k) l.ids → get_or l.whole k true ≡ get_or l.fn.whole k true;
}
