use Rattle.plan_needs.specs.Trees.{is_each_cell, is_spread}
use Rattle.plan_needs.proofs.Marks.{first_test, second_test}
use Rattle.plan_needs.proofs.sorts.comes_in_strips.Goals as goal

pub returns-then-is_each_cell : goal.returns-then-is_each_cell
returns-then-is_each_cell c = first_test is_each_cell c.args.nodes.now c.args.at c.index-nodes-at.result c.is_each_cell.result (is_spread c.args.nodes.now c.args.at) c.requires.inside c.index-nodes-at.is c.is_each_cell.ensures c.if-is_each_cell.true

pub returns-else-is_each_cell : goal.returns-else-is_each_cell
returns-else-is_each_cell c =
    second_test is_each_cell c.args.nodes.now c.args.at c.index-nodes-at.result c.is_spread.result c.is_each_cell.result (is_spread c.args.nodes.now c.args.at) c.requires.inside c.index-nodes-at.is c.is_each_cell.ensures c.if-is_each_cell.false c.is_spread.ensures
