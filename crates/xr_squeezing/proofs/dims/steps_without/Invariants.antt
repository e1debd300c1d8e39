use Rattle.std.proofs.Common.{◌≡◌, ◌≤◌, ◌++◌, drop}
use Rattle.xr_squeezing.specs.Made.{steps_without}
use Rattle.xr_squeezing.proofs.dims.steps_without.Given as goal

abbrev pub invariant-loop-dim : goal.invariant-loop-dim
invariant-loop-dim l = (l.axis ≤ l.dim-index) × (l.steps ++ steps_without l.gone l.axis (drop l.dim-index l.dims) ≡ steps_without l.gone 0 l.dims)
