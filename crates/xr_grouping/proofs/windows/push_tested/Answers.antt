use Rattle.xr_grouping.proofs.WindowAnswers.{handed_cells, handed_first, handed_node, handed_second}
use Rattle.xr_grouping.proofs.windows.push_tested.Goals as goal

pub push_formula-requires : goal.push_formula-requires
push_formula-requires c =
    handed_first c.args.plan.now c.args.fold c.args.least c.args.on.now c.args.asked.now c.requires.is c.requires.some c.requires.asked c.as_slice-changes.result.now c.as_slice-changes.ensures c.as_slice-axes.result.now c.as_slice-axes.ensures
    c.in_ok-tests.tests c.in_ok-tests.ensures

pub push_formula-requires-2 : goal.push_formula-requires-2
push_formula-requires-2 c =
    handed_second c.args.plan.now c.args.fold c.args.least c.args.on.now c.args.asked.now c.requires.is c.requires.some c.requires.asked c.as_slice-changes.result.now c.as_slice-changes.ensures c.as_slice-axes.result.now c.as_slice-axes.ensures
    c.in_ok-tests.tests c.in_ok-tests.ensures c.push_formula.new.plan c.in_ok-test.ensures.grows c.in_ok-test.test c.in_ok-test.ensures.value c.fill_cell.result c.fill_cell.ensures c.in_ok-cells.cells c.in_ok-cells.ensures

pub returns-clause-value : goal.returns-clause-value
returns-clause-value c =
    handed_node c.args.plan.now c.args.fold c.args.least c.args.on.now c.args.asked.now c.requires.is c.requires.some c.requires.asked c.as_slice-changes.result.now c.as_slice-changes.ensures c.as_slice-axes.result.now c.as_slice-axes.ensures
    c.in_ok-tests.tests c.in_ok-tests.ensures c.push_formula.new.plan c.in_ok-test.ensures.grows c.in_ok-test.test c.in_ok-test.ensures.value c.fill_cell.result c.fill_cell.ensures c.in_ok-cells.cells c.in_ok-cells.ensures
    c.push_formula-2.new.plan c.in_ok-node.node c.in_ok-node.ensures.value

pub returns-clause-cells : goal.returns-clause-cells
returns-clause-cells c =
    handed_cells c.args.plan.now c.args.fold c.args.least c.args.on.now c.args.asked.now c.requires.is c.requires.some c.requires.asked c.as_slice-changes.result.now c.as_slice-changes.ensures c.as_slice-axes.result.now c.as_slice-axes.ensures
    c.in_ok-tests.tests c.in_ok-tests.ensures c.push_formula.new.plan c.in_ok-test.ensures.grows c.in_ok-test.test c.in_ok-test.ensures.value c.fill_cell.result c.fill_cell.ensures c.in_ok-cells.cells c.in_ok-cells.ensures
    c.push_formula-2.new.plan c.in_ok-test.ensures.cells c.in_ok-node.ensures.cells
