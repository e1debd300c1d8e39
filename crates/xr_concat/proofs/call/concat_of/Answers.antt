use Rattle.std.proofs.Common.{◌∙◌, ◌≡◌, Err, List, ap, is_some, map, subst, sym}
use Rattle.std.specs.Prelude.{option_map}
use Rattle.std.specs.List.{AllByRecursion}
use Rattle.std.proofs.lemmas.Result.{err_from_is_err_and}
use Rattle.xr_types.specs.Results.{Answers}
use Rattle.xr_types.specs.declared.axis.Axis.{Axis}
use Rattle.xr_combination.specs.Concat.{concat_of, unnamed}
use Rattle.xr_stacking.specs.Axes.{axes_of}
use Rattle.xr_values.specs.Meaning.{meaning}
use Rattle.xr_values.specs.Stands.{dataset_in, IsDatasetIn}
use Rattle.xr_joint.proofs.Failing.{one_fails}
use Rattle.xr_joint.proofs.Firsts.{others}
use Rattle.xr_joint.specs.Fitting.{HasFrame}
use Rattle.xr_joint.specs.Joint.{AnswersOne}
use Rattle.xr_concat.specs.Steps.{made_over}
use Rattle.xr_concat.proofs.Putting.{frames_of}
use Rattle.xr_concat.proofs.Told.{by_axes, concat_over, concat_told, some_kept}
use Rattle.xr_concat.proofs.call.concat_of.Goals as goal

pub returns-in_err-axes-clause-answers : goal.returns-in_err-axes-clause-answers
returns-in_err-axes-clause-answers g c =
    let old = c.args.plan.now in
    let fill = option_map (λ v. meaning old v.now) c.args.fill in
    let vs = map (meaning old) c.args.values.now in
    let dim = c.args.dim.now in
    let how = c.args.how in
    let e = c.in_err-axes.field-0.0 in
    let filled : c.is_some.result ≡ is_some fill = c.is_some.ensures ∙ sym (some_kept (λ v. meaning old v.now) c.args.fill) in
    let are : map (dataset_in old) c.as_slice-sets.result.now ≡ map unnamed vs = ap (map (dataset_in old)) c.as_slice-sets.ensures ∙ c.in_ok-sets.ensures.are old in
    one_fails old (λ (xs : List Axis). xs) c.from_residual-in_err-axes.result e (axes_of dim how (is_some fill) vs (map unnamed vs)) (by_axes dim how fill vs) (concat_of dim how fill vs)
    (let p = err_from_is_err_and c.from_residual-in_err-axes.result c.from_residual-in_err-axes.ensures.1 in p.1 ∙ ap Err p.2) (concat_told dim how fill vs)
    (subst (Answers (λ (xs : List Axis). xs) (Err e)) (λ i. axes_of dim how (filled i) vs (are i)) (c.in_err-axes.ensures old))

pub made_over-requires-clause-frames : goal.made_over-requires-clause-frames
made_over-requires-clause-frames g c = λ κs lives.
    let old = c.args.plan.now in
    subst (AllByRecursion HasFrame) (sym c.as_slice-sets.ensures) (frames_of old c.in_ok-sets.sets (c.in_ok-sets.ensures.inside old c.requires.inside))

pub made_over-requires-clause-are : goal.made_over-requires-clause-are
made_over-requires-clause-are g c = λ κs lives. let old = c.args.plan.now in ap (map (dataset_in old)) c.as_slice-sets.ensures ∙ c.in_ok-sets.ensures.are old

pub made_over-requires-clause-sets : goal.made_over-requires-clause-sets
made_over-requires-clause-sets g c = λ κs lives all. let old = c.args.plan.now in subst (AllByRecursion (IsDatasetIn old)) (sym c.as_slice-sets.ensures) (c.in_ok-sets.ensures.sets old c.requires.inside all)

pub returns-clause-answers : goal.returns-clause-answers
returns-clause-answers g c =
    let old = c.args.plan.now in
    let fill = option_map (λ v. meaning old v.now) c.args.fill in
    let vs = map (meaning old) c.args.values.now in
    let dim = c.args.dim.now in
    let how = c.args.how in
    let filled : c.is_some.result ≡ is_some fill = c.is_some.ensures ∙ sym (some_kept (λ v. meaning old v.now) c.args.fill) in
    let are : map (dataset_in old) c.as_slice-sets.result.now ≡ map unnamed vs = ap (map (dataset_in old)) c.as_slice-sets.ensures ∙ c.in_ok-sets.ensures.are old in
    subst (AnswersOne c.made_over.new.plan c.made_over.result)
    ((λ i. made_over dim (others (c.as_slice.ensures i)) (c.as_slice-in-len1-up.ensures i) fill vs)
    ∙ sym (concat_over dim how fill vs c.in_ok-axes.axes (sym (λ i. axes_of dim how (filled i) vs (are i)) ∙ c.in_ok-axes.ensures old)))
    c.made_over.ensures.answers
