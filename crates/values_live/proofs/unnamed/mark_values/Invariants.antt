use Rattle.std.proofs.Common.{ℕ, length}
use Rattle.plan_live.specs.Live.{IsLive}
use Rattle.values_live.proofs.Naming.{AreShownLive}
use Rattle.values_live.proofs.unnamed.mark_values.Given as goal

abbrev pub invariant-loop-value : goal.invariant-loop-value
invariant-loop-value l = record {
  shown : AreShownLive (length l.fn.live) l.live l.yielded;
  stay : (k : ℕ) → IsLive l.fn.live k → IsLive l.live k;
}
