use Rattle.xr_grouping.proofs.WindowAnswers.{array_answer, array_cells, array_room}
use Rattle.xr_grouping.proofs.windows.window_folds.Goals as goal

pub returns-clause-array : goal.returns-clause-array
returns-clause-array c =
    array_answer c.args.plan.now c.args.fold c.args.least c.args.on.now c.args.asked c.requires.is c.requires.some c.requires.asked c.as_slice-changes.result.now c.as_slice-changes.ensures c.push_windows.new.plan
    c.in_ok-node.node c.in_ok-node.ensures.value c.in_ok-array.array c.in_ok-array.ensures

pub returns-clause-room : goal.returns-clause-room
returns-clause-room c =
    array_room c.args.plan.now c.args.fold c.args.least c.args.on.now c.args.asked c.requires.is c.requires.some c.requires.asked c.as_slice-changes.result.now c.as_slice-changes.ensures c.push_windows.new.plan
    c.in_ok-node.node c.in_ok-node.ensures.value c.in_ok-array.array c.in_ok-array.ensures c.in_ok-node.ensures.cells

pub returns-clause-cells : goal.returns-clause-cells
returns-clause-cells c =
    array_cells c.args.plan.now c.args.fold c.args.least c.args.on.now c.args.asked c.requires.is c.requires.some c.requires.asked c.as_slice-changes.result.now c.as_slice-changes.ensures c.push_windows.new.plan
    c.in_ok-node.node c.in_ok-node.ensures.value c.in_ok-array.array c.in_ok-array.ensures c.in_ok-node.ensures.cells
