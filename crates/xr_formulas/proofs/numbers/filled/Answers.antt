use Rattle.xr_formulas.proofs.Common.{AreAttributes, IsOver, array_in, subst, sym, to_z-of_z, w128}
use Rattle.xr_formulas.proofs.Operands.{plain_over}
use Rattle.xr_formulas.proofs.numbers.filled.Goals as goal

pub returns : goal.returns
returns c nodes is =
    let a = c.args.on.now in
    let means = array_in nodes a in
    let over = subst (IsOver nodes means a.kind means.cells) (sym c.cells_of-cells.ensures) (plain_over nodes a is) in
    let makes = c.in_ok-made.ensures nodes means.cells is over (subst AreAttributes (sym c.in_ok-attrs.ensures) is.formed.attrs) in
    rw (c.in_ok-attrs.ensures, to_z-of_z w128 c.args.n c.ranges.n) at makes
