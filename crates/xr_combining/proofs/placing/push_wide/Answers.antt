use Rattle.std.proofs.Common.{rules}
use Rattle.xr_combining.proofs.Placed.{wide_placed, wide_taken}
use Rattle.xr_combining.proofs.placing.push_wide.Goals as goal

pub push-requires : goal.push-requires
push-requires c = wide_taken c.args.plan.now c.args.input c.requires.inside c.requires.small c.requires.low

pub returns-clause-value : goal.returns-clause-value
returns-clause-value c = wide_placed c.args.plan.now c.push.new.self c.args.front c.args.input c.in_ok-node.node (search rules) c.in_ok-node.ensures.ok
