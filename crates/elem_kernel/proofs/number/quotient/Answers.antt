use Rattle.std.proofs.Common.{ℤ, ap, ◌∙◌}
use Rattle.std.proofs.lemmas.Int.{to_z-of_z}
use Rattle.std.specs.Prelude.{Some}
use mir.Val.{SFits}
use mir.Syntax.{w128}
use Rattle.xr_types.specs.Kinds.{wrap_to}
use Rattle.xr_arrays.specs.Elements.{floor_quotient, unless_zero}
use Rattle.elem_kernel.proofs.Bounds.{wrapped_one, quotient_left}
use Rattle.elem_kernel.proofs.number.quotient.Goals as goal

pub returns-then-is_signed : goal.returns-then-is_signed
returns-then-is_signed g c =
    let value : ℤ → ℤ → ℤ = λ m n. unless_zero n (floor_quotient m n) in
    let fx : SFits w128 c.widen-dividend.result = record { sfits = c.widen-dividend.type_inv } in
    let fy : SFits w128 c.widen-divisor.result = record { sfits = c.widen-divisor.type_inv } in
    let fits : SFits w128 c.floor_signed.result = record { sfits = c.floor_signed.type_inv } in
    ap Some (wrapped_one g.T.Elem.of g.T.Elem.number (wrap_to g.T.Elem.kind) g.met.T.Elem.number_of c.floor_signed.result _ c.wrap_from.result fits
    (c.floor_signed.ensures ∙ (λ i. value (to_z-of_z w128 c.widen-dividend.result fx i) (to_z-of_z w128 c.widen-divisor.result fy i)) ∙ (λ i. value (c.widen-dividend.ensures.value i) (c.widen-divisor.ensures.value i))) c.wrap_from.ensures
    ∙ quotient_left g.T.Elem.kind (g.T.Elem.number c.args.y) (floor_quotient (g.T.Elem.number c.args.x) (g.T.Elem.number c.args.y)))

pub returns-else-is_signed : goal.returns-else-is_signed
returns-else-is_signed g c =
    let value : ℤ → ℤ → ℤ = λ m n. unless_zero n (floor_quotient m n) in
    let fx : SFits w128 c.widen-dividend.result = record { sfits = c.widen-dividend.type_inv } in
    let fy : SFits w128 c.widen-divisor.result = record { sfits = c.widen-divisor.type_inv } in
    let fits : SFits w128 c.floor_unsigned.result = record { sfits = c.floor_unsigned.type_inv } in
    ap Some (wrapped_one g.T.Elem.of g.T.Elem.number (wrap_to g.T.Elem.kind) g.met.T.Elem.number_of c.floor_unsigned.result _ c.wrap_from-else-is_signed.result fits
    (c.floor_unsigned.ensures ∙ (λ i. value (to_z-of_z w128 c.widen-dividend.result fx i) (to_z-of_z w128 c.widen-divisor.result fy i)) ∙ (λ i. value (c.widen-dividend.ensures.value i) (c.widen-divisor.ensures.value i))) c.wrap_from-else-is_signed.ensures
    ∙ quotient_left g.T.Elem.kind (g.T.Elem.number c.args.y) (floor_quotient (g.T.Elem.number c.args.x) (g.T.Elem.number c.args.y)))
