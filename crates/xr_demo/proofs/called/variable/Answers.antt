use Rattle.xr_demo.proofs.Placed.{cells_add, cells_fit, variable_placed}
use Rattle.xr_demo.proofs.called.variable.Goals as goal

pub push-requires : goal.push-requires
push-requires c = cells_fit c.args.plan.now c.args.n c.in_ok-cells.cells c.requires c.in_ok-cells.ensures

pub returns-clause-var : goal.returns-clause-var
returns-clause-var c =
    variable_placed c.args.plan.now c.push.new.self c.args.n c.in_ok-node.node c.in_ok-cells.cells c.in_ok-cells.ensures c.in_ok-node.ensures.ok c.in_ok-from_str.field-0 c.in_ok-dims.field-0 c.new.result
    c.in_ok-from_str.ensures c.in_ok-dims.ensures c.new.ensures

pub returns-clause-cells : goal.returns-clause-cells
returns-clause-cells c = cells_add c.args.plan.now c.push.new.self c.args.n c.in_ok-node.node c.in_ok-cells.cells c.in_ok-cells.ensures c.in_ok-node.ensures.ok
