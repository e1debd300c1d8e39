use Rattle.std.proofs.Common.{◌+ℤ◌, SFits, ◌∙◌, rules}
use Rattle.std.specs.Int.{int_wrap, w64}
use Rattle.std.proofs.lemmas.Int.{to_z-of_z}
use Rattle.row_folds.proofs.Joined.{sum_both}
use Rattle.row_folds.proofs.accumulator.I64Accumulator.combine.Goals as goal

pub returns : goal.returns
returns g c =
    let first_fits : SFits w64 c.args.self = search rules in
    let second_fits : SFits w64 c.args.after = search rules in
    let fits : SFits w64 c.added.result = record { sfits = c.added.type_inv } in
    λ a b is_a is_b.
    sum_both a b c.args.self c.args.after _ is_a is_b
    (to_z-of_z w64 c.added.result fits ∙ c.added.ensures ∙ (λ k. int_wrap w64 (to_z-of_z w64 c.args.self first_fits k +ℤ to_z-of_z w64 c.args.after second_fits k)))
