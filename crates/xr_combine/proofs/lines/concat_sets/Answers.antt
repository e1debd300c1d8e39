use Rattle.std.proofs.Common.{◌∙◌, Err, Ok, ap, map, subst, sym}
use Rattle.std.specs.Prelude.{option_map}
use Rattle.std.specs.List.{AllByRecursion}
use Rattle.std.proofs.lemmas.Result.{err_from_is_err_and}
use Rattle.xr_combination.specs.Combine.{concat_sets}
use Rattle.xr_values.specs.Meaning.{meaning, IsValueIn}
use Rattle.xr_combine.specs.Sets.{sets_in}
use Rattle.xr_combine.proofs.Failing.{shared_fails}
use Rattle.xr_combine.proofs.Shared.{concat_fails, concat_told}
use Rattle.xr_combine.proofs.lines.concat_sets.Goals as goal

pub concat_of-requires-clause-inside : goal.concat_of-requires-clause-inside
concat_of-requires-clause-inside g c = λ κs lives.
    let old = c.args.plan.now in subst (AllByRecursion (IsValueIn old)) (sym c.as_slice.ensures) (c.in_ok-values.ensures.inside old c.requires.inside)

pub returns-in_err-value-clause-answers : goal.returns-in_err-value-clause-answers
returns-in_err-value-clause-answers g c =
    let old = c.args.plan.now in
    let fill = option_map (λ v. meaning old v.now) c.args.fill in
    let p = err_from_is_err_and c.from_residual-in_err-value.result c.from_residual-in_err-value.ensures.1 in
    shared_fails c.concat_of.new.plan c.from_residual-in_err-value.result c.in_err-value.field-0.0 (concat_sets c.args.how fill c.args.dim.now (sets_in old c.args.sets.now)) (p.1 ∙ ap Err p.2)
    (concat_fails c.args.how fill c.args.dim.now (sets_in old c.args.sets.now) (map (meaning old) c.as_slice.result.now) (ap (map (meaning old)) c.as_slice.ensures ∙ c.in_ok-values.ensures.mean old) c.in_err-value.field-0.0
    c.in_err-value.ensures.answers)

pub returns-clause-answers : goal.returns-clause-answers
returns-clause-answers g c =
    let old = c.args.plan.now in
    let new = c.concat_of.new.plan in (
      concat_told c.args.how (option_map (λ v. meaning old v.now) c.args.fill) c.args.dim.now (sets_in old c.args.sets.now) (map (meaning old) c.as_slice.result.now)
          (ap (map (meaning old)) c.as_slice.ensures ∙ c.in_ok-values.ensures.mean old) (meaning new c.in_ok-value.value) c.in_ok-value.ensures.answers.0
          ∙ ap Ok (sym (c.in_ok-set.ensures.is new)),
      c.in_ok-set.ensures.inside new c.in_ok-value.ensures.answers.1,
    )
