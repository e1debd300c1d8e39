use Rattle.xr_parts.proofs.Common.{axes_called, take, ◌≡◌}
use Rattle.xr_parts.proofs.picks.axes_called.Given as goal

abbrev pub invariant-loop-dim : goal.invariant-loop-dim
invariant-loop-dim l = l.out ≡ axes_called l.axes (take l.dim-index l.dims)
