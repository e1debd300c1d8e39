use Rattle.std.proofs.Common.{◌≡◌, drop}
use Rattle.fold_kernel.specs.Rows.{gathered}
use Rattle.fold_kernel.proofs.gather.gather.Given as goal

abbrev pub invariant-loop-i : goal.invariant-loop-i
invariant-loop-i g l = gathered g.G.Gathering.with l.all (drop l.i (g.R.Row.items l.row)) ≡ gathered g.G.Gathering.with l.fn.start (g.R.Row.items l.row)
