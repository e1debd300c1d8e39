use Rattle.std.proofs.Common.{SFits, ◌+ℤ◌}
use Rattle.std.specs.Int.{w128}
use Rattle.xr_types.specs.Kinds.{wrap_to}
use Rattle.fold_kernel.proofs.Totals.{sum_fits, summed}
use Rattle.fold_kernel.proofs.running.plus.Goals as goal

pub returns : goal.returns
returns g c =
    let fits : SFits w128 (c.widen.result +ℤ c.widen-2.result) = sum_fits g.S.Elem.kind g.T.Elem.kind c.widen.result c.widen-2.result (c.widen.ensures.from, c.widen.ensures.to) (c.widen-2.ensures.from, c.widen-2.ensures.to) in
    summed g.S.Elem.of g.S.Elem.number (wrap_to g.S.Elem.kind) g.met.S.Elem.number_of c.widen.result c.widen-2.result (g.S.Elem.number c.args.total) (g.T.Elem.number c.args.cell) c.wrap_from.result c.widen.ensures.value c.widen-2.ensures.value
    (record { sfits = c.widen.type_inv }) (record { sfits = c.widen-2.type_inv }) fits c.wrap_from.ensures
