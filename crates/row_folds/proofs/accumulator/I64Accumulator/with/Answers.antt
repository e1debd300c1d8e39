use Rattle.std.proofs.Common.{◌+ℤ◌, SFits, ◌∙◌, rules}
use Rattle.std.specs.Int.{int_wrap, w64}
use Rattle.std.proofs.lemmas.Int.{to_z-of_z}
use Rattle.row_folds.specs.Rows.{shown}
use Rattle.row_folds.proofs.Steps.{sum_more}
use Rattle.row_folds.proofs.accumulator.I64Accumulator.with.Goals as goal

pub returns : goal.returns
returns g c =
    let before_fits : SFits w64 c.args.self = search rules in
    let more_fits : SFits w64 c.number_or.result = record { sfits = c.number_or.type_inv } in
    let fits : SFits w64 c.added.result = record { sfits = c.added.type_inv } in
    λ before is.
    sum_more before c.args._position (shown c.args.present (g.T.Elem.number c.args.cell)) c.args.self c.number_or.result _ is c.number_or.ensures
    (to_z-of_z w64 c.added.result fits ∙ c.added.ensures ∙ (λ k. int_wrap w64 (to_z-of_z w64 c.args.self before_fits k +ℤ to_z-of_z w64 c.number_or.result more_fits k)))
