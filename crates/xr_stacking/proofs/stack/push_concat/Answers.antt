use Rattle.std.proofs.Common.{map, refl}
use Rattle.xr_arrays.specs.Nodes.{value}
use Rattle.xr_combining.proofs.Placed.{join_placed, join_taken}
use Rattle.xr_stacking.proofs.stack.push_concat.Goals as goal

pub push-requires : goal.push-requires
push-requires c = join_taken c.args.plan.now (map (value c.args.plan.now) c.args.inputs) c.args.inputs c.args.axis (record { inside = c.requires.inside; are = refl }) c.requires.joined

pub returns-clause-node : goal.returns-clause-node
returns-clause-node c =
    join_placed c.args.plan.now (map (value c.args.plan.now) c.args.inputs) c.args.inputs c.args.axis (record { inside = c.requires.inside; are = refl }) c.requires.joined c.push.new.self c.in_ok-node.node c.in_ok-node.ensures.ok
