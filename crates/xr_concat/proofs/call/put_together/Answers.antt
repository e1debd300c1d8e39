use Rattle.std.proofs.Common.{◌∙◌, Err, ap, map, subst, sym}
use Rattle.std.specs.List.{AllByRecursion}
use Rattle.std.proofs.lemmas.Result.{err_from_is_err_and}
use Rattle.xr_combination.specs.Concat.{put_together}
use Rattle.xr_values.specs.Stands.{dataset_in}
use Rattle.xr_joint.specs.Joint.{joint_in, IsSound}
use Rattle.xr_concat.proofs.Putting.{held_coords, held_fails, put_fails, put_told}
use Rattle.xr_concat.proofs.Sound.{coords_sound}
use Rattle.xr_concat.proofs.call.put_together.Goals as goal

pub coords_concatenated-requires : goal.coords_concatenated-requires
coords_concatenated-requires c = λ nodes. held_coords c.args.plan.now nodes c.args.sets.now c.requires.held

pub placed-requires-clause-sound : goal.placed-requires-clause-sound
placed-requires-clause-sound c =
    let old = c.args.plan.now in
    let sets = c.args.sets.now in
    subst (AllByRecursion IsSound) (sym (c.in_ok-coords.ensures old)) (coords_sound c.args.dim.now c.args.axes.now (map (dataset_in old) sets) (held_coords old old sets c.requires.held))

pub returns-in_err-vars-clause-answers : goal.returns-in_err-vars-clause-answers
returns-in_err-vars-clause-answers c =
    let new = c.variables_concatenated.new.plan in
    let ss = map (dataset_in c.args.plan.now) c.args.sets.now in
    let dim = c.args.dim.now in
    let axes = c.args.axes.now in
    held_fails new c.from_residual.result c.in_err-vars.field-0.0 (put_together dim axes ss) (let p = err_from_is_err_and c.from_residual.result c.from_residual.ensures.1 in p.1 ∙ ap Err p.2)
    (put_fails dim axes ss (map (joint_in new)) c.in_err-vars.field-0.0 c.in_err-vars.ensures.answers)

pub returns-clause-answers : goal.returns-clause-answers
returns-clause-answers c =
    let old = c.args.plan.now in
    let mid = c.variables_concatenated.new.plan in
    let ss = map (dataset_in old) c.args.sets.now in (
      put_told c.args.dim.now c.args.axes.now ss mid c.in_ok-vars.vars c.args.all.now c.in_ok-coords.coords c.in_ok-attrs.attrs c.in_ok-skipped.skipped (dataset_in c.placed.new.plan c.in_ok-set.set) c.in_ok-vars.ensures.answers c.requires.all
          (c.in_ok-coords.ensures old) (c.in_ok-attrs.ensures old) (c.in_ok-skipped.ensures old) c.in_ok-set.ensures.is,
      c.in_ok-set.ensures.holds,
    )
