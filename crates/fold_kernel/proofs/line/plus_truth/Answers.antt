use Rattle.std.proofs.Common.{rules, SFits, ◌+ℤ◌}
use Rattle.std.specs.Int.{w128}
use Rattle.xr_types.specs.Kinds.{wrap_to}
use Rattle.strided_block.specs.Typed.{truth}
use Rattle.fold_kernel.proofs.Totals.{low_bound, high_bound, summed}
use Rattle.fold_kernel.proofs.line.plus_truth.Goals as goal

pub returns : goal.returns
returns g c =
    let low = low_bound g.S.Elem.kind in let high = high_bound g.S.Elem.kind in
    let fits : SFits w128 (c.widen.result +ℤ c.truth_number.result) = search rules in
    summed g.S.Elem.of g.S.Elem.number (wrap_to g.S.Elem.kind) g.met.S.Elem.number_of c.widen.result c.truth_number.result (g.S.Elem.number c.args.total) (truth c.args.cell) c.wrap_from.result c.widen.ensures.value c.truth_number.ensures
    (record { sfits = c.widen.type_inv }) (record { sfits = c.truth_number.type_inv }) fits c.wrap_from.ensures
