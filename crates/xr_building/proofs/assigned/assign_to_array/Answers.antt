use Rattle.xr_building.proofs.Common.{Ok, array_assigned, frame_of, rules}
use Rattle.xr_building.proofs.Held.{array_told}
use Rattle.xr_building.proofs.Undeclined.{array_answers}
use Rattle.xr_building.proofs.assigned.assign_to_array.Goals as goal

pub returns-clause-told : goal.returns-clause-told
returns-clause-told g c =
    let nodes = c.args.cx.now.plan in
    let on = c.args.on.now in
    rw c.in_ok-array.ensures (array_told (g.C.Compute.declines c.args.cx.now.compute nodes) nodes on c.args.args.now (frame_of c.in_ok-draft.draft) (rw c.as_slice.ensures at c.in_ok-draft.ensures.told) (rw c.as_slice.ensures at c.in_ok-draft.ensures.stays) c.requires.inside)

pub returns-clause-undeclined : goal.returns-clause-undeclined
returns-clause-undeclined g c = array_answers (g.C.Compute.declines c.args.cx.now.compute c.args.cx.now.plan) c.args.cx.now.plan c.args.on.now c.args.args.now (Ok _) (returns-clause-told g c)

pub returns-in_err-draft-clause-undeclined : goal.returns-in_err-draft-clause-undeclined
unfolding array_assigned
returns-in_err-draft-clause-undeclined g c = array_answers (g.C.Compute.declines c.args.cx.now.compute c.args.cx.now.plan) c.args.cx.now.plan c.args.on.now c.args.args.now c.from_residual.result (search rules)
