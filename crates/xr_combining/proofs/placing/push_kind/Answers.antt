use Rattle.xr_combining.proofs.Placed.{kind_placed, kind_taken}
use Rattle.xr_combining.proofs.placing.push_kind.Goals as goal

pub push-requires : goal.push-requires
push-requires c = kind_taken c.args.plan.now c.args.kind c.args.input c.requires.inside c.requires.small c.requires.low

pub returns-clause-value : goal.returns-clause-value
returns-clause-value c = kind_placed c.args.plan.now c.push.new.self c.args.kind c.args.input c.in_ok-node.node c.in_ok-node.ensures.ok
