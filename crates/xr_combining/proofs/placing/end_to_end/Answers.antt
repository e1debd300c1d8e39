use Rattle.std.proofs.Common.{map}
use Rattle.xr_combining.specs.Placing.{brought}
use Rattle.xr_combining.proofs.Placed.{join_grows, join_placed, join_taken}
use Rattle.xr_combining.proofs.placing.end_to_end.Goals as goal

pub push-requires : goal.push-requires
push-requires c = join_taken c.push_parts.new.plan (map (brought c.args.plan.now c.args.kind c.args.dims.now c.args.front) c.args.parts.now) c.in_ok-inputs.inputs c.args.axis c.in_ok-inputs.ensures.nodes c.requires.joined

pub returns-clause-value : goal.returns-clause-value
returns-clause-value c =
    join_placed c.push_parts.new.plan (map (brought c.args.plan.now c.args.kind c.args.dims.now c.args.front) c.args.parts.now) c.in_ok-inputs.inputs c.args.axis c.in_ok-inputs.ensures.nodes c.requires.joined c.push.new.self c.in_ok-node.node c.in_ok-node.ensures.ok

pub returns-clause-grows : goal.returns-clause-grows
returns-clause-grows c =
    join_grows c.args.plan.now c.push_parts.new.plan c.push.new.self c.in_ok-inputs.inputs c.args.axis c.in_ok-node.node c.push_parts.ensures.grows c.in_ok-node.ensures.ok
