use Rattle.std.proofs.Common.{◌∙◌, ◌≡◌, Err, Result, [], true, ap, map, subst, sym}
use Rattle.std.specs.Prelude.{option_map}
use Rattle.std.specs.List.{list_all, AllByRecursion}
use Rattle.std.proofs.lemmas.Result.{err_from_is_err_and}
use Rattle.xr_types.specs.declared.fault.CallFault.{CallFault}
use Rattle.xr_combination.specs.Combine.{combine_of}
use Rattle.xr_combination.specs.Merge.{merge_of}
use Rattle.xr_combining.specs.Held.{holds_named}
use Rattle.xr_defs.specs.Meanings as of
use Rattle.xr_values.specs.Answers.{AnswersSet}
use Rattle.xr_values.specs.Meaning.{meaning, IsValueIn}
use Rattle.xr_values.specs.declared.dataset.Dataset.{Dataset}
use Rattle.xr_combine.specs.Sets.{sets_in, AreSetsIn}
use Rattle.xr_combine.proofs.Grouped.{merged_fails, merged_told}
use Rattle.xr_combine.proofs.Shared.{are_named}
use Rattle.xr_combine.proofs.call.combine_of.Goals as goal

pub merge_of-requires-clause-inside : goal.merge_of-requires-clause-inside
merge_of-requires-clause-inside g c = λ κs lives.
    let mid = c.combined.new.plan in
    subst (AllByRecursion (IsValueIn mid)) (sym c.as_slice-2.ensures) (c.in_ok-groups.ensures.inside mid (subst (AreSetsIn mid) (sym c.as_slice.ensures) c.in_ok-sets.ensures.answers.1))

pub merge_of-requires-clause-named : goal.merge_of-requires-clause-named
merge_of-requires-clause-named g c = λ κs lives.
    subst (λ vs. list_all holds_named vs ≡ true) (sym c.as_slice-2.ensures) (are_named c.in_ok-groups.groups (sets_in [] c.as_slice.result.now) (c.in_ok-groups.ensures.mean []))

pub returns-in_err-sets-clause-answers : goal.returns-in_err-sets-clause-answers
returns-in_err-sets-clause-answers g c =
    let old = c.args.plan.now in
    let fill = option_map (λ v. meaning old v.now) c.args.fill in
    let vs = map (meaning old) c.args.values.now in
    let p = err_from_is_err_and c.from_residual.result c.from_residual.ensures.1 in
    subst (λ (x : Result Dataset CallFault). AnswersSet c.combined.new.plan x (combine_of c.args.compat c.args.how fill vs)) (sym (p.1 ∙ ap Err p.2))
    (merged_fails c.args.how fill c.args.compat vs c.in_err-sets.field-0.0 c.in_err-sets.ensures.answers)

pub returns-clause-answers : goal.returns-clause-answers
returns-clause-answers g c =
    let old = c.args.plan.now in
    let mid = c.combined.new.plan in
    let us = map (meaning mid) c.as_slice-2.result.now in
    subst (AnswersSet c.merge_of.new.plan c.merge_of.result)
    ((λ i. merge_of c.args.compat c.args.how (c.requires.fixed.means mid old i) us)
    ∙ merged_told c.args.how (option_map (λ v. meaning old v.now) c.args.fill) c.args.compat (map (meaning old) c.args.values.now) (sets_in mid c.in_ok-sets.sets) us c.in_ok-sets.ensures.answers.0
    (ap (map (meaning mid)) c.as_slice-2.ensures ∙ c.in_ok-groups.ensures.mean mid ∙ ap (λ rs. map of.Set (sets_in mid rs)) c.as_slice.ensures))
    c.merge_of.ensures.answers
