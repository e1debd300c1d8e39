use Rattle.xr_building.proofs.Common.{DataArray, ap, arith, array_in, is_array, length, ◌∙◌, check_coordinate}
use Rattle.xr_building.proofs.Checked.{few_axes, many_axes}
use Rattle.xr_building.proofs.check.check_coordinate.Goals as goal

pub returns-then-as_slice-le1 : goal.returns-then-as_slice-le1
returns-then-as_slice-le1 c = λ nodes.
    ap check_coordinate (is_array nodes c.args.value.now c.in-Array.array c.in-Array.is) ∙ few_axes (array_in nodes c.in-Array.array.value) (let e = ap length (c.as_slice.ensures ∙ ap (λ (a : DataArray). a.axes) c.deref.ensures) in let f = c.if-as_slice-le1.true in omega (arith, e, f))

pub returns-else-as_slice-le1 : goal.returns-else-as_slice-le1
returns-else-as_slice-le1 c = λ nodes.
    ap check_coordinate (is_array nodes c.args.value.now c.in-Array.array c.in-Array.is) ∙ many_axes (array_in nodes c.in-Array.array.value) (let e = ap length (c.as_slice.ensures ∙ ap (λ (a : DataArray). a.axes) c.deref.ensures) in let f = c.if-as_slice-le1.false in omega (arith, e, f))
