use Rattle.std.proofs.Common.{◌∙◌, ◌≡◌, Bor, Err, List, Option, Ok, ap, map, refl, rules, subst, sym}
use Rattle.std.specs.Prelude.{option_map}
use Rattle.std.proofs.lemmas.Result.{err_from_is_err_and}
use Rattle.xr_arrays.specs.declared.node.Node.{Node}
use Rattle.xr_combination.specs.Arguments.{compat_given, how_given}
use Rattle.xr_defs.specs.Meanings as of
use Rattle.xr_relations.specs.Aligning.{fill_given}
use Rattle.xr_values.specs.Meaning.{given, meaning, IsValueIn}
use Rattle.xr_values.specs.declared.value.Value.{Value}
use Rattle.xr_values.specs.declared.value.Value.TheVariants as variants
use Rattle.xr_merge.proofs.Called.{set_answered}
use Rattle.xr_combine.proofs.Called.{at_combine, combine_fails, compat_fails, fill_fails, how_fails, list_fails, names_fail, values_fail}
use Rattle.xr_combine.proofs.call.combine_by_coords.Goals as goal

abbrev asked : List Node → List (Option (Bor Value)) → List (Option of.Value)
asked nodes os = map (option_map (λ (v : Bor Value). meaning nodes v.now)) os

abbrev one : List Node → Bor Value → of.Value
one nodes v = meaning nodes v.now

pub combine_of-requires-clause-fixed : goal.combine_of-requires-clause-fixed
combine_of-requires-clause-fixed w c = λ κs lives. c.in_ok-fill.ensures.fixed

pub combine_of-requires-clause-inside : goal.combine_of-requires-clause-inside
combine_of-requires-clause-inside w c = λ κs lives. let old = c.args.plan.now in c.in_ok-values.ensures.inside old (c.in_ok-first.ensures.inside old c.requires.given)

pub returns-in_err-given-clause-answers : goal.returns-in_err-given-clause-answers
returns-in_err-given-clause-answers w c =
    let old = c.args.plan.now in
    let g = given old c.args.args.now in
    names_fail old c.from_residual.result c.in_err-given.field-0.0 (let p = err_from_is_err_and c.from_residual.result c.from_residual.ensures.1 in p.1 ∙ ap Err p.2) g _ refl (asked old) (c.in_err-given.ensures old)

pub returns-in_err-required-clause-answers : goal.returns-in_err-required-clause-answers
returns-in_err-required-clause-answers w c =
    let old = c.args.plan.now in
    let g = given old c.args.args.now in
    let args = asked old c.as_slice-given.result.now in
    let told = c.in_ok-given.ensures old ∙ ap (λ (os : List (Option (Bor Value))). Ok (asked old os)) (sym c.as_slice-given.ensures) in
    list_fails old c.from_residual-in_err-required.result c.in_err-required.field-0.0 (let p = err_from_is_err_and c.from_residual-in_err-required.result c.from_residual-in_err-required.ensures.1 in p.1 ∙ ap Err p.2) g _ refl args told (one old) _ (c.argument.ensures old) (c.in_err-required.ensures old)

pub returns-in_err-values-clause-answers : goal.returns-in_err-values-clause-answers
returns-in_err-values-clause-answers w c =
    let old = c.args.plan.now in
    let g = given old c.args.args.now in
    let args = asked old c.as_slice-given.result.now in
    let told = c.in_ok-given.ensures old ∙ ap (λ (os : List (Option (Bor Value))). Ok (asked old os)) (sym c.as_slice-given.ensures) in
    values_fail old c.from_residual-in_err-values.result c.in_err-values.field-0.0 (let p = err_from_is_err_and c.from_residual-in_err-values.result c.from_residual-in_err-values.ensures.1 in p.1 ∙ ap Err p.2) g _ refl args told (meaning old c.in_ok-first.field-0.now) (c.in_ok-first.ensures.is old _ args told)
    (λ (vs : Bor (List Value)). map (meaning old) vs.now) (c.in_err-values.ensures.answers old)

pub returns-in_err-compat-clause-answers : goal.returns-in_err-compat-clause-answers
returns-in_err-compat-clause-answers w c =
    let old = c.args.plan.now in
    let g = given old c.args.args.now in
    let args = asked old c.as_slice-given.result.now in
    let told = c.in_ok-given.ensures old ∙ ap (λ (os : List (Option (Bor Value))). Ok (asked old os)) (sym c.as_slice-given.ensures) in
    compat_fails old c.from_residual-in_err-compat.result c.in_err-compat.field-0.0 (let p = err_from_is_err_and c.from_residual-in_err-compat.result c.from_residual-in_err-compat.ensures.1 in p.1 ∙ ap Err p.2) g _ refl args told (meaning old c.in_ok-first.field-0.now) (c.in_ok-first.ensures.is old _ args told)
    (map (meaning old) c.in_ok-values.values.now) (c.in_ok-values.ensures.answers old) (λ k. k) _ (c.option.ensures old) (c.in_err-compat.ensures old)

pub returns-in_err-how-clause-answers : goal.returns-in_err-how-clause-answers
returns-in_err-how-clause-answers w c =
    let old = c.args.plan.now in
    let g = given old c.args.args.now in
    let args = asked old c.as_slice-given.result.now in
    let told = c.in_ok-given.ensures old ∙ ap (λ (os : List (Option (Bor Value))). Ok (asked old os)) (sym c.as_slice-given.ensures) in
    how_fails old c.from_residual-in_err-how.result c.in_err-how.field-0.0 (let p = err_from_is_err_and c.from_residual-in_err-how.result c.from_residual-in_err-how.ensures.1 in p.1 ∙ ap Err p.2) g _ refl args told (meaning old c.in_ok-first.field-0.now) (c.in_ok-first.ensures.is old _ args told)
    (map (meaning old) c.in_ok-values.values.now) (c.in_ok-values.ensures.answers old) c.in_ok-compat.compat (ap compat_given (sym (c.option.ensures old)) ∙ c.in_ok-compat.ensures old)
    (λ j. j) _ (c.option-2.ensures old) (c.in_err-how.ensures old)

pub returns-in_err-fill-clause-answers : goal.returns-in_err-fill-clause-answers
returns-in_err-fill-clause-answers w c =
    let old = c.args.plan.now in
    let g = given old c.args.args.now in
    let args = asked old c.as_slice-given.result.now in
    let told = c.in_ok-given.ensures old ∙ ap (λ (os : List (Option (Bor Value))). Ok (asked old os)) (sym c.as_slice-given.ensures) in
    fill_fails old c.from_residual-in_err-fill.result c.in_err-fill.field-0.0 (let p = err_from_is_err_and c.from_residual-in_err-fill.result c.from_residual-in_err-fill.ensures.1 in p.1 ∙ ap Err p.2) g _ refl args told (meaning old c.in_ok-first.field-0.now) (c.in_ok-first.ensures.is old _ args told)
    (map (meaning old) c.in_ok-values.values.now) (c.in_ok-values.ensures.answers old) c.in_ok-compat.compat (ap compat_given (sym (c.option.ensures old)) ∙ c.in_ok-compat.ensures old)
    c.in_ok-how.how (ap how_given (sym (c.option-2.ensures old)) ∙ c.in_ok-how.ensures old) (option_map (one old)) _ (c.option-3.ensures old) (c.in_err-fill.ensures.answers old)

pub returns-in_err-set-clause-answers : goal.returns-in_err-set-clause-answers
returns-in_err-set-clause-answers w c =
    let old = c.args.plan.now in
    let g = given old c.args.args.now in
    let args = asked old c.as_slice-given.result.now in
    let told = c.in_ok-given.ensures old ∙ ap (λ (os : List (Option (Bor Value))). Ok (asked old os)) (sym c.as_slice-given.ensures) in
    combine_fails c.combine_of.new.plan c.from_residual-in_err-set.result c.in_err-set.field-0.0 (let p = err_from_is_err_and c.from_residual-in_err-set.result c.from_residual-in_err-set.ensures.1 in p.1 ∙ ap Err p.2) g _ refl args told (meaning old c.in_ok-first.field-0.now) (c.in_ok-first.ensures.is old _ args told)
    (map (meaning old) c.in_ok-values.values.now) (c.in_ok-values.ensures.answers old) c.in_ok-compat.compat (ap compat_given (sym (c.option.ensures old)) ∙ c.in_ok-compat.ensures old)
    c.in_ok-how.how (ap how_given (sym (c.option-2.ensures old)) ∙ c.in_ok-how.ensures old) (option_map (one old) c.in_ok-fill.fill) (ap fill_given (sym (c.option-3.ensures old)) ∙ c.in_ok-fill.ensures.answers old) c.in_err-set.ensures.answers

pub returns-clause-answers : goal.returns-clause-answers
returns-clause-answers w c =
    let old = c.args.plan.now in
    let g = given old c.args.args.now in
    let args = asked old c.as_slice-given.result.now in
    let told = c.in_ok-given.ensures old ∙ ap (λ (os : List (Option (Bor Value))). Ok (asked old os)) (sym c.as_slice-given.ensures) in
    let new = c.combine_of.new.plan in
    let v = variants.Set c.in_ok-new.field-0 in
    subst (λ m. (m ≡ Ok (meaning new v)) × IsValueIn new v)
    (sym
    (at_combine g _ refl args told (meaning old c.in_ok-first.field-0.now) (c.in_ok-first.ensures.is old _ args told) (map (meaning old) c.in_ok-values.values.now) (c.in_ok-values.ensures.answers old)
    c.in_ok-compat.compat (ap compat_given (sym (c.option.ensures old)) ∙ c.in_ok-compat.ensures old) c.in_ok-how.how (ap how_given (sym (c.option-2.ensures old)) ∙ c.in_ok-how.ensures old) (option_map (one old) c.in_ok-fill.fill) (ap fill_given (sym (c.option-3.ensures old)) ∙ c.in_ok-fill.ensures.answers old)))
    (set_answered new _ c.in_ok-set.set c.in_ok-new.field-0 v refl (search rules) c.in_ok-set.ensures.answers)
