use Rattle.std.proofs.Common.{ap, ◌∙◌}
use Rattle.std.specs.Prelude.{Some}
use mir.Val.{SFits}
use mir.Syntax.{w128}
use Rattle.xr_types.specs.Kinds.{wrap_to}
use Rattle.xr_arrays.specs.Elements.{floor_quotient}
use Rattle.elem_kernel.proofs.Bounds.{wrapped_one}
use Rattle.elem_kernel.proofs.Wholes.{quotient_some}
use Rattle.elem_kernel.proofs.divisors.Divisor.quotient.Goals as goal

pub returns : goal.returns
returns g c =
    let y = g.T.Elem.number c.args.self.now.by in
    let fits : SFits w128 c.floor-floor.result = record { sfits = c.floor-floor.type_inv } in
    ap Some (wrapped_one g.T.Elem.of g.T.Elem.number (wrap_to g.T.Elem.kind) g.met.T.Elem.number_of c.floor-floor.result _ c.wrap_from.result fits c.floor-floor.ensures.value c.wrap_from.ensures
    ∙ quotient_some g.T.Elem.kind y (floor_quotient (g.T.Elem.number c.args.x) y) c.floor-floor.ensures.some)
