use Rattle.xr_combining.proofs.Placed.{can_next, first_of, last_grows, last_nodes, next_of}
use Rattle.xr_combining.proofs.placing.push_parts.Goals as goal

pub push_part-requires-clause-can : goal.push_part-requires-clause-can
push_part-requires-clause-can c =
    can_next c.args.plan.now c.args.kind c.args.dims.now c.args.front c.args.parts.now c.loop-part.plan c.loop-part.part-index c.part-item.result c.loop-part.nodes c.loop-part-test.true c.part-item.is c.requires.can c.loop-part.invariant

pub loop-part-preserved : goal.loop-part-preserved
loop-part-preserved c =
    next_of c.args.plan.now c.args.kind c.args.dims.now c.args.front c.args.parts.now c.loop-part.plan c.push_part.new.plan c.loop-part.part-index c.part-item.result c.loop-part.nodes c.push.new.self c.in_ok-node.node c.loop-part-test.true c.part-item.is
    c.requires.can c.loop-part.invariant c.push_part.ensures.grows c.in_ok-node.ensures.value c.in_ok-push.ensures.ok

pub returns-clause-nodes : goal.returns-clause-nodes
returns-clause-nodes c = last_nodes c.args.plan.now c.args.kind c.args.dims.now c.args.front c.args.parts.now c.loop-part.plan c.loop-part.part-index c.loop-part.nodes c.loop-part-test.false c.loop-part.invariant
