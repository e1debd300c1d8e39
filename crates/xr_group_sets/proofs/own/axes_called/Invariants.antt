use Rattle.std.proofs.Common.{◌≡◌, map, take}
use Rattle.xr_defs.specs.Selecting.{axis_called}
use Rattle.xr_group_sets.proofs.own.axes_called.Given as goal

abbrev pub invariant-loop-dim : goal.invariant-loop-dim
invariant-loop-dim l = l.out ≡ map (axis_called l.axes) (take l.dim-index l.dims)
