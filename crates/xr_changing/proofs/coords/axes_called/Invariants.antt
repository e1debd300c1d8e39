use Rattle.xr_changing.proofs.Common.{AreThere, axes_called, axis_names, take, ◌≡◌}
use Rattle.xr_changing.proofs.coords.axes_called.Given as goal

abbrev pub invariant-loop-dim : goal.invariant-loop-dim
invariant-loop-dim l = (l.out ≡ axes_called l.axes (take l.dim-index l.dims)) × AreThere (axis_names l.axes) (take l.dim-index l.dims)
