use Rattle.std.proofs.Common.{rules}
use Rattle.xr_squeezing.proofs.Squeezed.{told}
use Rattle.xr_squeezing.proofs.arrays.squeezed_array.Goals as goal

pub returns-clause-is : goal.returns-clause-is
returns-clause-is c = told c.args.plan.now c.args.gone.now c.args.on c.requires (search rules) c.in_ok-axes.axes c.in_ok-steps.steps (search rules) (search rules) c.in_ok-coords.coords (search rules) c.push_chain.new.plan c.in_ok-node.node c.in_ok-node.ensures.value
