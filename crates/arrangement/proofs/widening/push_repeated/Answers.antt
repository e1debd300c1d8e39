use Rattle.plan_core.proofs.Widens.{repeated_more}
use Rattle.arrangement.proofs.widening.push_repeated.Goals as goal

pub loop-preserved : goal.loop-preserved
loop-preserved g c = repeated_more c.loop.out.items c.extend_from_slice.new.self.items _ c.args.row.now c.args.count c.loop.counter c.loop-test.true c.in_ok-extend_from_slice.ensures.items c.loop.invariant
