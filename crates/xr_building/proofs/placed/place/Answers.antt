use Rattle.xr_building.proofs.Common.{Source, frame_of, sym}
use Rattle.xr_building.proofs.Standing.{fits, stands, node_added}
use Rattle.xr_building.proofs.placed.place.Goals as goal

pub push-requires : goal.push-requires
push-requires c =
    let within = rw (c.as_slice-axes.ensures, c.as_slice.ensures) at c.if-not-is_frame_within.ensures in
    rw (c.in_ok-cells.ensures, c.in_ok-shape.ensures, c.as_slice-axes.ensures) (fits c.args.header (frame_of c.args.draft) c.args.cells.now c.requires.filled c.requires.range (sym within) c.args.plan.now)

pub returns-clause-answers : goal.returns-clause-answers
returns-clause-answers c =
    let within = rw (c.as_slice-axes.ensures, c.as_slice.ensures) at c.if-not-is_frame_within.ensures in
    let pushes = rw (c.in_ok-cells.ensures, c.in_ok-shape.ensures, c.as_slice-axes.ensures) at c.in_ok-node.ensures.ok in
    rw c.new.ensures (stands c.args.header (frame_of c.args.draft) c.args.cells.now c.requires.filled c.requires.range (sym within) c.args.plan.now c.push.new.self c.in_ok-node.node pushes)

pub returns-clause-room : goal.returns-clause-room
returns-clause-room c = node_added c.args.plan.now c.push.new.self (Source c.in_ok-cells.cells) _ c.in_ok-node.ensures.ok (returns-clause-answers c).1
