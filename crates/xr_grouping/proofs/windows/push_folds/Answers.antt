use Rattle.xr_grouping.proofs.WindowAnswers.{folds_cells, folds_first, folds_node}
use Rattle.xr_grouping.proofs.windows.push_folds.Goals as goal

pub push_chain-requires : goal.push_chain-requires
push_chain-requires c =
    folds_first c.args.plan.now c.args.fold c.args.least c.args.on.now c.args.asked.now c.requires.is c.requires.some c.requires.asked c.as_slice-changes.result.now c.as_slice-changes.ensures
    c.requires.untested c.in_ok-cells.cells c.in_ok-cells.ensures

pub returns-clause-value : goal.returns-clause-value
returns-clause-value c =
    folds_node c.args.plan.now c.args.fold c.args.least c.args.on.now c.args.asked.now c.requires.is c.requires.some c.requires.asked c.as_slice-changes.result.now c.as_slice-changes.ensures
    c.requires.untested c.in_ok-cells.cells c.in_ok-cells.ensures c.push_chain.new.plan c.in_ok-node.node c.in_ok-node.ensures.value

pub returns-clause-cells : goal.returns-clause-cells
returns-clause-cells c =
    folds_cells c.args.plan.now c.args.fold c.args.least c.args.on.now c.args.asked.now c.requires.is c.requires.some c.requires.asked c.as_slice-changes.result.now c.as_slice-changes.ensures
    c.requires.untested c.in_ok-cells.cells c.in_ok-cells.ensures c.push_chain.new.plan c.in_ok-node.ensures.cells
