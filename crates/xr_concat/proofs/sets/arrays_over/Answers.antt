use Rattle.std.proofs.Common.{◌∙◌, Err, ap, map, subst, sym}
use Rattle.std.proofs.lemmas.Result.{err_from_is_err_and}
use Rattle.std.specs.List.{AllByRecursion}
use Rattle.xr_joint.specs.Fitting.{HasFrame, IsOpenIn}
use Rattle.xr_values.specs.Meaning.{meaning}
use Rattle.xr_values.specs.Stands.{dataset_in}
use Rattle.xr_concat.specs.Named.{nameless, AreHeldIn}
use Rattle.xr_concat.proofs.Single.{arrays_refused, arrays_told}
use Rattle.xr_concat.proofs.sets.arrays_over.Goals as goal

pub sets_over-requires-clause-open : goal.sets_over-requires-clause-open
sets_over-requires-clause-open c = subst (AllByRecursion (IsOpenIn c.args.plan.now)) (sym c.as_slice.ensures) (c.in_ok-named.ensures.opened c.args.plan.now c.requires)

pub sets_over-requires-clause-frames : goal.sets_over-requires-clause-frames
sets_over-requires-clause-frames c = subst (AllByRecursion HasFrame) (sym c.as_slice.ensures) (c.in_ok-named.ensures.frames c.args.plan.now c.requires)

pub returns-clause-answers : goal.returns-clause-answers
returns-clause-answers c = λ arrays.
    let old = c.args.plan.now in
    let new = c.sets_over.new.plan in
    let told = c.in_ok-over.ensures.answers in
    arrays_told c.args.joined.now c.args.fill (map (meaning old) c.args.values.now) arrays new (map (dataset_in old) c.as_slice.result.now) (ap (map (dataset_in old)) c.as_slice.ensures ∙ c.in_ok-named.ensures.are old) c.in_ok-over.over c.in_ok-sets.sets told
    (c.in_ok-sets.ensures.are new ∙ ap (λ ts. map nameless (map (dataset_in new) ts)) c.as_slice-2.ensures) (c.in_ok-sets.ensures.held new (subst (AreHeldIn new) (sym c.as_slice-2.ensures) told.2))

pub returns-in_err-over-clause-answers : goal.returns-in_err-over-clause-answers
returns-in_err-over-clause-answers c = λ arrays.
    let old = c.args.plan.now in
    let new = c.sets_over.new.plan in
    let p = err_from_is_err_and c.from_residual-in_err-over.result c.from_residual-in_err-over.ensures.1 in
    arrays_refused c.args.joined.now c.args.fill (map (meaning old) c.args.values.now) arrays new (map (dataset_in old) c.as_slice.result.now) (ap (map (dataset_in old)) c.as_slice.ensures ∙ c.in_ok-named.ensures.are old) c.from_residual-in_err-over.result
    c.in_err-over.field-0.0 (p.1 ∙ ap Err p.2) c.in_err-over.ensures.answers
