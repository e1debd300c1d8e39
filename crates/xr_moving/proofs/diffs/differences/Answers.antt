use Rattle.std.proofs.Common.{ap, sym, ◌∙◌}
use Rattle.xr_types.specs.declared.axis.Axis.{Axis}
use Rattle.xr_moving.proofs.Differences.{differ}
use Rattle.xr_moving.proofs.Left.{axis_here}
use Rattle.xr_moving.proofs.diffs.differences.Goals as goal

pub returns : goal.returns
returns c nodes is =
    let x = axis_here c.args.on.now.axes c.as_slice.result.now c.index-as_slice-k.result c.args.k c.requires.axis c.as_slice.ensures c.index-as_slice-k.is in
    let size = ap (λ (y : Axis). y.size) (sym c.index-as_slice-k.is ∙ x) in
    rw (c.in_ok-name.ensures, c.in_ok-framed.ensures.axes, c.in_ok-framed.ensures.coords, c.in_ok-attrs.ensures, c.as_slice-2.ensures, c.in_ok-cells.ensures, size)
    (differ nodes c.args.on.now c.args.k c.args.upper is c.in_ok-framed.ensures.framed c.requires.axis c.requires.numbers)
