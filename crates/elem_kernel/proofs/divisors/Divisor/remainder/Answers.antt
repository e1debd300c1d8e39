use Rattle.std.proofs.Common.{◌≡◌, ◌-ℤ◌, ◌*ℤ◌, ◌≤ℤ◌, ap, subst, ◌∙◌}
use Rattle.std.specs.Int.{int_wrap, w128}
use Rattle.std.proofs.lemmas.Int.{to_z-of_z, int_wrap-sub_right}
use Rattle.std.specs.Prelude.{Some}
use mir.Val.{SFits}
use Rattle.xr_types.specs.Kinds.{wrap_to, low, high, InRange}
use Rattle.xr_arrays.specs.Elements.{floor_quotient}
use Rattle.elem_kernel.proofs.Bounds.{wrapped_one}
use Rattle.elem_kernel.proofs.Products.{wrapped_before}
use Rattle.elem_kernel.proofs.Wholes.{rest_some}
use Rattle.elem_kernel.proofs.divisors.Divisor.remainder.Goals as goal

pub returns : goal.returns
returns g c =
    let x = g.T.Elem.number c.args.x in let y = g.T.Elem.number c.args.self.now.by in let q = floor_quotient x y in
    let n = c.widen-number.result in let d = c.widen-divisor.result in let f = c.floor-floor.result in let p = c.wrapped_product-multiple.result in
    let fn : SFits w128 n = record { sfits = c.widen-number.type_inv } in
    let fd : SFits w128 d = record { sfits = c.widen-divisor.type_inv } in
    let ff : SFits w128 f = record { sfits = c.floor-floor.type_inv } in
    let fp : SFits w128 p = record { sfits = c.wrapped_product-multiple.type_inv } in
    let fits : SFits w128 c.wrapped_difference-left.result = record { sfits = c.wrapped_difference-left.type_inv } in
    let range : InRange g.T.Elem.kind y = (subst (λ m. low g.T.Elem.kind ≤ℤ m) c.widen-divisor.ensures.value c.widen-divisor.ensures.from, subst (λ m. m ≤ℤ high g.T.Elem.kind) c.widen-divisor.ensures.value c.widen-divisor.ensures.to) in
    let multiple : p ≡ int_wrap w128 (y *ℤ q) =
    c.wrapped_product-multiple.ensures ∙ (λ i. int_wrap w128 (to_z-of_z w128 d fd i *ℤ to_z-of_z w128 f ff i)) ∙ (λ i. int_wrap w128 (c.widen-divisor.ensures.value i *ℤ c.floor-floor.ensures.value i)) in
    let left : c.wrapped_difference-left.result ≡ int_wrap w128 (x -ℤ y *ℤ q) =
    c.wrapped_difference-left.ensures ∙ (λ i. int_wrap w128 (to_z-of_z w128 n fn i -ℤ to_z-of_z w128 p fp i)) ∙ (λ i. int_wrap w128 (c.widen-number.ensures.value i -ℤ multiple i)) ∙ int_wrap-sub_right w128 x (y *ℤ q) in
    ap Some (wrapped_one g.T.Elem.of g.T.Elem.number (wrap_to g.T.Elem.kind) g.met.T.Elem.number_of c.wrapped_difference-left.result _ c.wrap_from.result fits left c.wrap_from.ensures
    ∙ wrapped_before g.T.Elem.kind (x -ℤ y *ℤ q) ∙ rest_some g.T.Elem.kind x y range c.floor-floor.ensures.some)
