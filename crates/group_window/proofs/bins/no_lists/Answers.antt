use Rattle.group_window.proofs.Lists.{empties_next}
use Rattle.group_window.proofs.bins.no_lists.Goals as goal

pub loop-preserved : goal.loop-preserved
loop-preserved c = empties_next c.loop.counter c.loop.lists.items c.push.new.self.items c.new.result c.in_ok-push.ensures.items c.loop.invariant c.new.ensures
