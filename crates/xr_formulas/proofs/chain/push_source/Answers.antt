use Rattle.xr_formulas.proofs.Common.{Source, node_value, refl, source_fits, values}
use Rattle.xr_formulas.proofs.Chains.{node_added}
use Rattle.xr_formulas.proofs.chain.push_source.Goals as goal

pub push-requires : goal.push-requires
push-requires c = source_fits (values c.args.plan.now) c.args.cells c.requires.cells c.requires.small c.requires.low_rank

pub returns-clause-value : goal.returns-clause-value
unfolding node_value
returns-clause-value c = (node_added c.args.plan.now c.push.new.self (Source c.args.cells) c.in_ok-node.node c.args.cells refl c.in_ok-node.ensures.ok).0

pub returns-clause-cells : goal.returns-clause-cells
unfolding node_value
returns-clause-cells c = (node_added c.args.plan.now c.push.new.self (Source c.args.cells) c.in_ok-node.node c.args.cells refl c.in_ok-node.ensures.ok).1
