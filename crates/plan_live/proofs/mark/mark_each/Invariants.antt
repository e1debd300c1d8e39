use Rattle.std.proofs.Common.{◌≡◌, ◌<◌, ℕ, take, get_or, All, false}
use Rattle.plan_live.specs.Live.{IsLive}
use Rattle.plan_live.proofs.mark.mark_each.Given as goal

abbrev pub invariant-loop-id : goal.invariant-loop-id
invariant-loop-id l = record {
  marked : All (IsLive l.live) (take l.id-index l.ids);
  stay : (k : ℕ) → IsLive l.fn.live k → IsLive l.live k;
  others : (k : ℕ) → All (λ m. m < k) l.ids → get_or l.live k false ≡ get_or l.fn.live k false;
}
