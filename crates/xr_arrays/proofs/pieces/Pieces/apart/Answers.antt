use Rattle.std.proofs.Common.{◌≤◌, ◌+◌, ◌-◌, ◌*◌, length, arith}
use Rattle.xr_arrays.proofs.Together.{apart_is}
use Rattle.xr_arrays.proofs.pieces.Pieces.apart.Goals as goal

pub returns : goal.returns
returns c =
    let end : c.args.begin + (c.args.count - 1) * c.args.step + c.args.size ≤ length c.args.bytes = omega (arith, c.saturating_mul.ensures, c.saturating_add-last.ensures, c.saturating_add.ensures, c.len.ensures.value, c.len.ensures.bound, c.if-saturating_add-len.false) in
    apart_is c.args.kind c.args.bytes c.args.begin c.args.step c.args.size c.args.count c.width-width.result c.width-width.ensures (omega (arith, c.if-size-width-ne0.false)) (omega (arith, c.if-size-step.false)) (omega (arith, c.if-count-eq0.false)) end (omega (arith, c.len.ensures.value, c.len.ensures.bound))
