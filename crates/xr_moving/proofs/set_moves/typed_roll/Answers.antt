use Rattle.std.proofs.Common.{◌≡◌, ◌∙◌, Ok, length, map, subst, arith}
use Rattle.std.proofs.lemmas.List.{length-map}
use Rattle.xr_types.specs.Results.{all_of}
use Rattle.xr_defs.specs.Arguments.{check_dimension}
use Rattle.xr_operations.specs.Moves.{distances, roll_set}
use Rattle.xr_values.specs.Meaning.{given, meaning, with_key}
use Rattle.xr_values.specs.Stands.{dataset_in}
use Rattle.xr_moving.proofs.SetsAnswered.{none_fits, roll_answered, roll_told}
use Rattle.xr_moving.proofs.set_moves.typed_roll.Goals as goal

pub returns : goal.returns
unfolding given
returns c nodes others is =
    let by = c.in_ok-by.by in
    let s = dataset_in nodes c.args.on.now in
    let d = subst (λ kvs. distances (map (with_key others) kvs) ≡ Ok by) c.as_slice.ensures.value (c.in_ok-by.ensures others) in
    let none : length (given others c.args.args.now).plain ≡ 0 = length-map c.args.args.now.plain.items (meaning others) ∙ (let l = c.len.ensures in omega (arith, l)) in
    let e = subst (λ kvs. all_of (check_dimension s.axes) (map (with_key others) kvs) ≡ Ok tt) c.as_slice-3.ensures.value
    (subst (λ axes. all_of (check_dimension axes) (map (with_key others) c.as_slice-3.result.now) ≡ Ok tt) c.as_slice-2.ensures (c.in_ok-check_dimensions.ensures others)) in
    roll_answered nodes s by c.in_ok-made.made (roll_set s (given others c.args.args.now)) (roll_told s (given others c.args.args.now) by none d e) (c.in_ok-made.ensures nodes is (none_fits by c.args.on.now.vars))
