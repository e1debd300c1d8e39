use Rattle.xr_building.proofs.Common.{Axis, Err, List, Ok, ap, err_from_is_err_and, frame_of, ◌∙◌}
use Rattle.xr_building.proofs.Sets.{few_fails, frame_fails, set_told}
use Rattle.xr_building.proofs.Undeclined.{set_answers}
use Rattle.xr_building.proofs.assigned_sets.assign_to_set.Goals as goal

pub returns-clause-told : goal.returns-clause-told
returns-clause-told g c =
    let nodes = c.args.cx.now.plan in
    let draft = rw (c.as_slice.ensures.variables, c.as_slice-2.ensures) at c.in_ok-draft.ensures in
    rw (c.in_ok-set.ensures, c.in_ok-axes.ensures.axes) (set_told (g.C.Compute.declines c.args.cx.now.compute nodes) nodes c.args.on.now c.args.args.now (frame_of c.in_ok-draft.draft) draft.told draft.stays c.requires.inside c.in_ok-axes.ensures.few)

pub returns-in_err-draft-clause-told : goal.returns-in_err-draft-clause-told
returns-in_err-draft-clause-told g c =
    let nodes = c.args.cx.now.plan in
    let r = c.from_residual.result in
    frame_fails (g.C.Compute.declines c.args.cx.now.compute nodes) nodes c.args.on.now c.args.args.now frame_of c.in_err-draft.field-0.0 r (let p = err_from_is_err_and r c.from_residual.ensures.1 in p.1 ∙ ap Err p.2)
    (rw (c.as_slice.ensures.variables, c.as_slice-2.ensures) at c.in_err-draft.ensures.told)

pub returns-in_err-axes-clause-told : goal.returns-in_err-axes-clause-told
returns-in_err-axes-clause-told g c =
    let nodes = c.args.cx.now.plan in
    let r = c.from_residual-in_err-axes.result in
    let draft = rw (c.as_slice.ensures.variables, c.as_slice-2.ensures) at c.in_ok-draft.ensures in
    few_fails (g.C.Compute.declines c.args.cx.now.compute nodes) nodes c.args.on.now c.args.args.now (frame_of c.in_ok-draft.draft) draft.told draft.stays c.requires.inside (List Axis) c.in_err-axes.field-0.0 r (let p = err_from_is_err_and r c.from_residual-in_err-axes.ensures.1 in p.1 ∙ ap Err p.2) c.in_err-axes.ensures.few

pub returns-clause-undeclined : goal.returns-clause-undeclined
returns-clause-undeclined g c = set_answers (g.C.Compute.declines c.args.cx.now.compute c.args.cx.now.plan) c.args.cx.now.plan c.args.on.now c.args.args.now (Ok _) (returns-clause-told g c)

pub returns-in_err-draft-clause-undeclined : goal.returns-in_err-draft-clause-undeclined
returns-in_err-draft-clause-undeclined g c = set_answers (g.C.Compute.declines c.args.cx.now.compute c.args.cx.now.plan) c.args.cx.now.plan c.args.on.now c.args.args.now c.from_residual.result (returns-in_err-draft-clause-told g c)

pub returns-in_err-axes-clause-undeclined : goal.returns-in_err-axes-clause-undeclined
returns-in_err-axes-clause-undeclined g c = set_answers (g.C.Compute.declines c.args.cx.now.compute c.args.cx.now.plan) c.args.cx.now.plan c.args.on.now c.args.args.now c.from_residual-in_err-axes.result (returns-in_err-axes-clause-told g c)
