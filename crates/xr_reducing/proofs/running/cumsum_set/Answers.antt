use Rattle.xr_defs.specs.Room.{of_set}
use Rattle.xr_values.specs.Stands.{dataset_in}
use Rattle.xr_reducing.proofs.Placing.{set_room}
use Rattle.xr_reducing.proofs.running.cumsum_set.Goals as goal

pub realize_set-requires : goal.realize_set-requires
realize_set-requires c = (c.in_ok-made.ensures c.args.plan.now c.args.plan.now c.requires).1.0

pub returns-clause-room : goal.returns-clause-room
returns-clause-room c =
    let old = c.args.plan.now in
    let new = c.realize_set.new.plan in
    let set = c.in_ok-realize_set.ensures in
    set_room old new c.in_ok-made.made (dataset_in new c.in_ok-realize_set.field-0) set.made.is (c.in_ok-made.ensures old old c.requires).1 set.cells (of_set (dataset_in old c.args.on.now))
