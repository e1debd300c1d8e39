use Rattle.std.proofs.Common.{◌∙◌, arith}
use Rattle.group_window.proofs.Lists.{done_are, done_end}
use Rattle.group_window.proofs.bins.joined.Goals as goal

pub lists-requires : goal.lists-requires
lists-requires c = done_end c.args.lists.now c.loop-list.positions c.loop-list.ends c.loop-list.list-index (let past = c.loop-list-test.false in omega (arith, past)) c.loop-list.invariant.0 c.loop-list.invariant.1

pub returns : goal.returns
returns c = c.lists.ensures ∙ done_are c.args.lists.now c.loop-list.positions c.loop-list.ends c.loop-list.list-index (let past = c.loop-list-test.false in omega (arith, past)) c.loop-list.invariant.0 c.loop-list.invariant.1
