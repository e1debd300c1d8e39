use Rattle.xr_building.proofs.Common.{bare_axes, drop, ◌++◌, ◌≡◌}
use Rattle.xr_building.proofs.bare.bare_axes.Given as goal

abbrev pub invariant-loop-at : goal.invariant-loop-at
invariant-loop-at l = l.axes ++ bare_axes (drop l.at l.dims) (drop l.at l.shape) ≡ bare_axes l.dims l.shape
