use Rattle.xr_parts.proofs.Common.{Source, ◌∙◌}
use Rattle.xr_parts.proofs.Picked.{cells_fit, cells_made}
use Rattle.xr_parts.proofs.Rooms.{node_added}
use Rattle.xr_parts.proofs.picks.pick_part.Goals as goal

pub push-requires : goal.push-requires
push-requires c = cells_fit _ c.args.axes.now c.in_ok-coord.coord c.in-Cells.cells c.in-Cells.masked c.in_ok-coord.ensures.1 c.in-Cells.is

pub returns-in_ok-node-in-Cells-clause-answers : goal.returns-in_ok-node-in-Cells-clause-answers
returns-in_ok-node-in-Cells-clause-answers c =
    let made = cells_made c.args.axes.now c.args.coords.now c.requires c.args.plan.now c.push.new.self c.in_ok-coord.coord c.in-Cells.cells c.in-Cells.masked c.in_ok-node-in-Cells.node c.as_slice.result.now c.kind-kind.result c.in_ok-coords-in-Cells.coords
    c.in_ok-coord.ensures.1 c.in-Cells.is c.in_ok-node-in-Cells.ensures.ok c.kind-kind.ensures c.as_slice.ensures c.in_ok-coords-in-Cells.ensures in
    (c.in_ok-coord.ensures.0 ∙ made.0, made.1)

pub returns-in_ok-node-in-Cells-clause-room : goal.returns-in_ok-node-in-Cells-clause-room
returns-in_ok-node-in-Cells-clause-room c = node_added c.args.plan.now c.push.new.self (Source c.in-Cells.cells) _ c.in_ok-node-in-Cells.ensures.ok (returns-in_ok-node-in-Cells-clause-answers c).1
