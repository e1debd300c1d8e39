use Rattle.std.proofs.Common.{◌-ℤ◌, negsuc, ap, ◌∙◌}
use Rattle.std.proofs.lemmas.Int.{to_z-of_z}
use Rattle.std.specs.Prelude.{Some}
use mir.Val.{SFits}
use mir.Syntax.{w128}
use Rattle.xr_types.specs.Kinds.{wrap_to}
use Rattle.elem_kernel.proofs.Bounds.{wrapped_one}
use Rattle.elem_kernel.proofs.number.inversion.Goals as goal

pub returns : goal.returns
returns g c =
    let fx : SFits w128 c.widen.result = record { sfits = c.widen.type_inv } in
    let fits : SFits w128 c.turned.result = record { sfits = c.turned.type_inv } in
    ap Some (wrapped_one g.T.Elem.of g.T.Elem.number (wrap_to g.T.Elem.kind) g.met.T.Elem.number_of c.turned.result _ c.wrap_from.result fits
    (c.turned.ensures ∙ ap (λ n. negsuc 0 -ℤ n) (to_z-of_z w128 c.widen.result fx) ∙ ap (λ n. negsuc 0 -ℤ n) c.widen.ensures.value) c.wrap_from.ensures)
