use Rattle.std.proofs.Common.{◌≡◌, ◌+◌, drop}
use Rattle.xr_arrays.specs.Folds.{present}
use Rattle.fold_kernel.specs.Partials.{found_with}
use Rattle.fold_kernel.specs.Rows.{placed}
use Rattle.fold_kernel.proofs.find.first_with.Given as goal

abbrev pub invariant-loop-i : goal.invariant-loop-i
invariant-loop-i g l = found_with l.number (present (placed g.T.Elem.number (l.first + l.i) (drop l.i (g.R.Row.items l.row)))) ≡ found_with l.number (present (placed g.T.Elem.number l.first (g.R.Row.items l.row)))
