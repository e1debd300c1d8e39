use Rattle.xr_arrays.specs.Nodes.{values}
use Rattle.plan_core.proofs.Fitting.{source_fits}
use Rattle.xr_joint.proofs.Placing.{source_is}
use Rattle.xr_joint.proofs.dataset.push_cells.Goals as goal

pub push-requires : goal.push-requires
push-requires c = source_fits (values c.args.plan.now) c.args.cells c.requires.cells c.requires.small c.requires.low_rank

pub returns-clause-value : goal.returns-clause-value
returns-clause-value c = source_is c.args.plan.now c.push.new.self c.args.cells c.in_ok-node.node c.in_ok-node.ensures.ok
