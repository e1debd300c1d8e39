use Rattle.std.proofs.Common.{◌≡◌, take}
use Rattle.xr_operations.specs.Reductions.{feeds}
use Rattle.xr_reducing.proofs.left.feeds_of.Given as goal

abbrev pub invariant-loop-dim : goal.invariant-loop-dim
invariant-loop-dim l = l.out ≡ feeds l.names (take l.dim-index l.dims)
