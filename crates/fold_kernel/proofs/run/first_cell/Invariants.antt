use Rattle.std.proofs.Common.{◌≡◌, drop}
use Rattle.fold_kernel.specs.Rows.{first_shown}
use Rattle.fold_kernel.proofs.run.first_cell.Given as goal

abbrev pub invariant-loop-i : goal.invariant-loop-i
invariant-loop-i g l = first_shown (drop l.i (g.R.Row.items l.row)) ≡ first_shown (g.R.Row.items l.row)
