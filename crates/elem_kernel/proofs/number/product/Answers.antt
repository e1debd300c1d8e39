use Rattle.std.proofs.Common.{◌*ℤ◌, ap, ◌∙◌}
use Rattle.std.specs.Int.{int_wrap, w128}
use Rattle.std.proofs.lemmas.Int.{to_z-of_z}
use Rattle.std.specs.Prelude.{Some}
use mir.Val.{SFits}
use Rattle.xr_types.specs.Kinds.{wrap_to}
use Rattle.elem_kernel.proofs.Bounds.{wrapped_one}
use Rattle.elem_kernel.proofs.Products.{wrapped_before}
use Rattle.elem_kernel.proofs.number.product.Goals as goal

pub returns : goal.returns
returns g c =
    let fx : SFits w128 c.widen.result = record { sfits = c.widen.type_inv } in
    let fy : SFits w128 c.widen-2.result = record { sfits = c.widen-2.type_inv } in
    let fits : SFits w128 c.wrapped_product.result = record { sfits = c.wrapped_product.type_inv } in
    ap Some (wrapped_one g.T.Elem.of g.T.Elem.number (wrap_to g.T.Elem.kind) g.met.T.Elem.number_of c.wrapped_product.result _ c.wrap_from.result fits
    (c.wrapped_product.ensures ∙ (λ i. int_wrap w128 (to_z-of_z w128 c.widen.result fx i *ℤ to_z-of_z w128 c.widen-2.result fy i)) ∙ (λ i. int_wrap w128 (c.widen.ensures.value i *ℤ c.widen-2.ensures.value i))) c.wrap_from.ensures
    ∙ wrapped_before g.T.Elem.kind (g.T.Elem.number c.args.x *ℤ g.T.Elem.number c.args.y))
