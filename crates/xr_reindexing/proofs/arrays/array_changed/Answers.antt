use Rattle.std.proofs.Common.{arith}
use Rattle.xr_defs.specs.Room.{of_array}
use Rattle.xr_values.specs.Stands.{array_in}
use Rattle.xr_values.proofs.Rooms.{in_room}
use Rattle.xr_reindexing.proofs.arrays.array_changed.Goals as goal

pub returns-clause-room : goal.returns-clause-room
returns-clause-room c =
    let old = c.args.plan.now in
    let new = c.placed.new.plan in
    in_room old new (of_array (array_in old c.args.on.now)) (of_array (array_in new c.in_ok-array.array)) 16 (omega arith) c.in_ok-array.ensures.is.space
