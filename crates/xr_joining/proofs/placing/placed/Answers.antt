use Rattle.xr_joining.proofs.PlacedArrays.{placed_by}
use Rattle.xr_joining.proofs.placing.placed.Goals as goal

pub returns-clause-placed : goal.returns-clause-placed
returns-clause-placed c operands is = placed_by c.args.plan.now c.push_formula.new.plan c.args.made c.in_ok-node.node c.in_ok-node.ensures.value c.in_ok-node.ensures.cells operands is
