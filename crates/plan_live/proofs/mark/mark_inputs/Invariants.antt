use Rattle.std.proofs.Common.{ℕ}
use Rattle.plan_live.specs.Live.{IsLive, AreFedFrom}
use Rattle.plan_live.proofs.mark.mark_inputs.Given as goal

abbrev pub invariant-loop-at : goal.invariant-loop-at
invariant-loop-at l = record {
  fed : AreFedFrom l.nodes l.live l.at;
  stay : (k : ℕ) → IsLive l.fn.live k → IsLive l.live k;
}
