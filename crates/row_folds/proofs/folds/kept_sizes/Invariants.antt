use Rattle.std.proofs.Common.{◌≡◌, ◌++◌, drop}
use Rattle.xr_arrays.specs.Nodes.{kept}
use Rattle.row_folds.proofs.folds.kept_sizes.Given as goal

abbrev pub invariant-loop-i : goal.invariant-loop-i
invariant-loop-i l = l.sizes.items ++ kept (drop l.i l.feeds) (drop l.i l.shape) ≡ kept l.feeds l.shape
