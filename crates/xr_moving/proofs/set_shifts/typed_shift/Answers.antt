use Rattle.std.proofs.Common.{◌≡◌, ◌∙◌, Some, Ok, true, length, map, subst, sym, ap, arith}
use Rattle.std.proofs.lemmas.List.{length-map}
use Rattle.std.specs.Prelude.{option_map}
use Rattle.xr_types.specs.Results.{all_of}
use Rattle.xr_defs.specs.Arguments.{check_dimension}
use Rattle.xr_operations.specs.Moves as of
use Rattle.xr_values.specs.Meaning.{given, meaning, with_key}
use Rattle.xr_values.specs.Stands.{dataset_in, variable_in}
use Rattle.xr_moving.specs.Sets.{AnswersSetMade}
use Rattle.xr_moving.specs.Steps.{check_kinds_by, named}
use Rattle.xr_moving.proofs.ShiftedSets.{kinds_literal, shift_told}
use Rattle.xr_moving.proofs.set_shifts.typed_shift.Goals as goal

pub returns-in-Some : goal.returns-in-Some
unfolding given
returns-in-Some c nodes others is =
    let by = c.in_ok-by.by in
    let s = dataset_in nodes c.args.on.now in
    let w = meaning others c.in-Some.value.now in
    let none : length (given others c.args.args.now).plain ≡ 0 = length-map c.args.args.now.plain.items (meaning others) ∙ (let l = c.len.ensures in omega (arith, l)) in
    let d = subst (λ kvs. of.distances (named true (map (with_key others) kvs)) ≡ Ok by) c.as_slice.ensures.value (c.in_ok-by.ensures others) in
    let there : option_map (λ v. meaning others v.now) c.fill_given-value.result ≡ Some w = ap (option_map (λ v. meaning others v.now)) c.in-Some.is in
    let f : of.fill_given (given others c.args.args.now) ≡ Some w = sym (c.fill_given-value.ensures others) ∙ there in
    let k0 = c.in_ok-check_kinds.ensures nodes others in
    let k1 = subst (λ o. check_kinds_by c.as_slice-2.result.now o (map (variable_in nodes) c.as_slice-3.result.now) ≡ Ok tt) there k0 in
    let k2 = subst (λ bys. check_kinds_by bys (Some w) (map (variable_in nodes) c.as_slice-3.result.now) ≡ Ok tt) c.as_slice-2.ensures k1 in
    let k = subst (λ vs. check_kinds_by by (Some w) (map (variable_in nodes) vs) ≡ Ok tt) c.as_slice-3.ensures.variables k2 in
    let e = subst (λ kvs. all_of (check_dimension s.axes) (named true (map (with_key others) kvs)) ≡ Ok tt) c.as_slice-5.ensures.value
    (subst (λ axes. all_of (check_dimension axes) (named true (map (with_key others) c.as_slice-5.result.now)) ≡ Ok tt) c.as_slice-4.ensures (c.in_ok-check_dimensions.ensures others)) in
    subst (AnswersSetMade nodes c.shift_by.result) (sym (shift_told s (given others c.args.args.now) by w none d f k e)) (c.shift_by.ensures nodes others is (kinds_literal by w s.vars k))
