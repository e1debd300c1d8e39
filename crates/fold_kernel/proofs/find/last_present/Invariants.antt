use Rattle.std.proofs.Common.{◌≡◌, ◌≤◌, length, take}
use Rattle.xr_arrays.specs.Folds.{present}
use Rattle.fold_kernel.specs.Partials.{last_found}
use Rattle.fold_kernel.specs.Rows.{placed}
use Rattle.fold_kernel.proofs.find.last_present.Given as goal

abbrev pub invariant-loop-left : goal.invariant-loop-left
invariant-loop-left g l = record {
  inside : l.left ≤ length (g.R.Row.items l.row);
  same : last_found (present (placed g.T.Elem.number l.first (take l.left (g.R.Row.items l.row)))) ≡ last_found (present (placed g.T.Elem.number l.first (g.R.Row.items l.row)));
}

abbrev pub decreases-loop-left : goal.decreases-loop-left
decreases-loop-left g l = l.left
