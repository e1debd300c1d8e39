use Rattle.std.proofs.Common.{◌≡◌, ◌<◌, ℕ, length, get_or, None}
use Rattle.plan_needs.proofs.release.+release_inputs.Given as goal

abbrev pub decreases-release_inputs : goal.decreases-release_inputs
decreases-release_inputs l = l.at

abbrev pub invariant-loop-id : goal.invariant-loop-id
invariant-loop-id l = record {
  long : length l.done ≡ length l.fn.done;
  kept : (m : ℕ) → l.user < get_or l.until m 0 → get_or l.done m None ≡ get_or l.fn.done m None;
}
