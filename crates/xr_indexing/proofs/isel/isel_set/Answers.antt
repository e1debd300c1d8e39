use Rattle.xr_values.specs.Stands.{dataset_in}
use Rattle.xr_indexing.proofs.Taken.{set_room}
use Rattle.xr_indexing.proofs.isel.isel_set.Goals as goal

pub returns-clause-room : goal.returns-clause-room
returns-clause-room c =
    set_room c.args.plan.now c.set_placed.new.plan c.squeezed_set.new.plan c.as_slice-changes.result.now c.as_slice-gone.result.now (dataset_in c.args.plan.now c.args.on.now) c.in_ok-taken.taken c.in_ok-left.left c.requires.formed
    c.in_ok-taken.ensures.is c.in_ok-left.ensures.is c.in_ok-left.ensures.alone c.in_ok-left.ensures.space
