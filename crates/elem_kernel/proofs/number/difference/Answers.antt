use Rattle.std.proofs.Common.{rules, ap, ◌-ℤ◌}
use Rattle.std.specs.Prelude.{Some}
use mir.Val.{SFits}
use mir.Syntax.{w128}
use Rattle.xr_types.specs.Kinds.{wrap_to}
use Rattle.elem_kernel.proofs.Bounds.{low_bound, high_bound, wrapped}
use Rattle.elem_kernel.proofs.number.difference.Goals as goal

pub returns : goal.returns
returns g c =
    let l = low_bound g.T.Elem.kind in let h = high_bound g.T.Elem.kind in
    let fits : SFits w128 (c.widen.result -ℤ c.widen-2.result) = search rules in
    ap Some (wrapped g.T.Elem.of g.T.Elem.number (wrap_to g.T.Elem.kind) g.met.T.Elem.number_of (λ m n. m -ℤ n) c.widen.result c.widen-2.result (g.T.Elem.number c.args.x) (g.T.Elem.number c.args.y) c.wrap_from.result c.widen.ensures.value c.widen-2.ensures.value
    (record { sfits = c.widen.type_inv }) (record { sfits = c.widen-2.type_inv }) fits c.wrap_from.ensures)
