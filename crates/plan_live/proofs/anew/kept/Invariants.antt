use Rattle.plan_live.specs.Live.{AreKept}
use Rattle.plan_live.proofs.anew.kept.Given as goal

abbrev pub invariant-loop-at : goal.invariant-loop-at
invariant-loop-at l = AreKept l.live l.nodes l.at l.new
