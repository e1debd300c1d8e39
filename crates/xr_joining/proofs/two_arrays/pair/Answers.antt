use Rattle.xr_joining.proofs.PairParts.{pair_by}
use Rattle.xr_joining.proofs.two_arrays.pair.Goals as goal

pub returns : goal.returns
returns c nodes is js joined =
    pair_by nodes c.args.op c.args.kind c.args.axes c.args.a.now c.args.b.now is js joined c.has_cells-some.result c.as_slice.result.now c.as_slice-2.result.now c.as_slice-3.result.now c.in_ok-cells.cells c.in_ok-parts.parts c.result_kind.result
    c.either.result c.as_slice.ensures c.as_slice-2.ensures c.as_slice-3.ensures c.has_cells-some.ensures.some c.has_cells-some.ensures.none c.in_ok-cells.ensures (c.in_ok-parts.ensures nodes) c.result_kind.ensures c.either.ensures
