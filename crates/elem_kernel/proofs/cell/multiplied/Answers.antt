use Rattle.std.proofs.Common.{◌*ℤ◌, ap, ◌∙◌}
use Rattle.std.specs.Int.{int_wrap, w128}
use Rattle.std.proofs.lemmas.Int.{to_z-of_z}
use Rattle.std.specs.Prelude.{Some}
use mir.Val.{SFits}
use Rattle.xr_types.specs.Kinds.{wrap_to}
use Rattle.elem_kernel.proofs.Products.{wrapped_before}
use Rattle.elem_kernel.proofs.cell.multiplied.Goals as goal

pub returns : goal.returns
returns c =
    let p : SFits w128 c.wrapped_product.result = record { sfits = c.wrapped_product.type_inv } in
    let r : SFits w128 c.wrap.result = record { sfits = c.wrap.type_inv } in
    ap Some (to_z-of_z w128 c.wrap.result r ∙ c.wrap.ensures ∙ ap (wrap_to c.args.of) (to_z-of_z w128 c.wrapped_product.result p ∙ c.wrapped_product.ensures
    ∙ (λ i. int_wrap w128 (to_z-of_z w128 c.args.m c.ranges.m i *ℤ to_z-of_z w128 c.args.n c.ranges.n i))) ∙ wrapped_before c.args.of (c.args.m *ℤ c.args.n))
