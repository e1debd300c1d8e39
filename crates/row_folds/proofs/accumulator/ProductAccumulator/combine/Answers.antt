use Rattle.std.proofs.Common.{◌*ℤ◌, SFits, ◌∙◌, rules}
use Rattle.std.specs.Int.{int_wrap, w64}
use Rattle.std.proofs.lemmas.Int.{to_z-of_z}
use Rattle.row_folds.proofs.Joined.{product_both}
use Rattle.row_folds.proofs.accumulator.ProductAccumulator.combine.Goals as goal

pub returns : goal.returns
returns g c =
    let first_fits : SFits w64 c.args.self.product = search rules in
    let second_fits : SFits w64 c.args.after.product = search rules in
    let fits : SFits w64 c.multiplied.result = record { sfits = c.multiplied.type_inv } in
    λ a b is_a is_b.
    product_both a b c.args.self.product c.args.after.product _ is_a is_b
    (to_z-of_z w64 c.multiplied.result fits ∙ c.multiplied.ensures ∙ (λ k. int_wrap w64 (to_z-of_z w64 c.args.self.product first_fits k *ℤ to_z-of_z w64 c.args.after.product second_fits k)))
