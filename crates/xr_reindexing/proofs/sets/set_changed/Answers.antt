use Rattle.std.proofs.Common.{◌*◌, length, arith}
use Rattle.xr_defs.specs.Room.{of_set}
use Rattle.xr_values.specs.Stands.{dataset_in}
use Rattle.xr_values.proofs.Rooms.{in_room}
use Rattle.xr_reindexing.proofs.sets.set_changed.Goals as goal

pub returns-clause-room : goal.returns-clause-room
returns-clause-room c =
    let old = c.args.plan.now in
    let new = c.set_placed.new.plan in
    let own = dataset_in old c.args.on.now in
    in_room old new (of_set own) (of_set (dataset_in new c.in_ok-set.set)) (16 * length own.vars) (omega arith) c.in_ok-set.ensures.is.space
