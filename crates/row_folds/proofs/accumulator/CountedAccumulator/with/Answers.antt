use Rattle.std.proofs.Common.{◌≡◌, pos, Bool, true, false, ◌+ℤ◌, SFits, ◌∙◌, refl, rules}
use Rattle.std.specs.Int.{int_wrap, w64}
use Rattle.std.proofs.lemmas.Int.{to_z-of_z}
use mir.Val.{bool_byte}
use Rattle.xr_arrays.specs.Folds.{truth}
use Rattle.row_folds.proofs.Steps.{count_more}
use Rattle.row_folds.proofs.accumulator.CountedAccumulator.with.Goals as goal

one : (b : Bool) → pos (bool_byte b) ≡ truth b
one true = refl
one false = refl

pub returns : goal.returns
returns g c =
    let before_fits : SFits w64 c.args.self.count = search rules in
    let more_fits : SFits w64 c.from.result = record { sfits = c.from.type_inv } in
    let fits : SFits w64 c.added.result = record { sfits = c.added.type_inv } in
    λ before is few.
    count_more before c.args._position c.args.present (g.T.Elem.number c.args._cell) c.args.self.count _ is
    (to_z-of_z w64 c.added.result fits ∙ c.added.ensures ∙ (λ k. int_wrap w64 (to_z-of_z w64 c.args.self.count before_fits k +ℤ (to_z-of_z w64 c.from.result more_fits ∙ c.from.ensures ∙ one c.args.present) k))) few
