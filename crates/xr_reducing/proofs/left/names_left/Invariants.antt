use Rattle.std.proofs.Common.{◌≡◌, ◌++◌, drop}
use Rattle.xr_operations.specs.Reductions.{names_left}
use Rattle.xr_reducing.proofs.left.names_left.Given as goal

abbrev pub invariant-loop-dim : goal.invariant-loop-dim
invariant-loop-dim l = l.out ++ names_left l.names (drop l.dim-index l.dims) ≡ names_left l.names l.dims
