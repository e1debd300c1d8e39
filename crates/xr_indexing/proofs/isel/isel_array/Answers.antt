use Rattle.xr_values.specs.Stands.{array_in}
use Rattle.xr_indexing.proofs.Taken.{array_room}
use Rattle.xr_indexing.proofs.isel.isel_array.Goals as goal

pub returns-clause-room : goal.returns-clause-room
returns-clause-room c =
    array_room c.args.plan.now c.placed.new.plan c.squeezed_array.new.plan c.as_slice-changes.result.now c.as_slice-2.result.now (array_in c.args.plan.now c.args.on.now) c.in_ok-taken.taken c.in_ok-left.left c.requires.formed
    c.in_ok-taken.ensures.is c.in_ok-left.ensures.is c.in_ok-left.ensures.alone c.in_ok-left.ensures.space
