use Rattle.std.proofs.Common.{◌≡◌, drop, take}
use Rattle.fold_kernel.specs.Rows.{gathered}
use Rattle.fold_kernel.proofs.gather.gather_halves.Given as goal

abbrev pub invariant-loop-i : goal.invariant-loop-i
invariant-loop-i g l = record {
  first : gathered g.G.Gathering.with l.first (drop l.i (take l.half (g.R.Row.items l.row))) ≡ gathered g.G.Gathering.with l.fn.start (take l.half (g.R.Row.items l.row));
  second : gathered g.G.Gathering.with l.second (drop l.i (drop l.half (g.R.Row.items l.row))) ≡ gathered g.G.Gathering.with l.fn.start (drop l.half (g.R.Row.items l.row));
}

abbrev pub invariant-loop-i-2 : goal.invariant-loop-i-2
invariant-loop-i-2 g l = gathered g.G.Gathering.with l.second (drop l.i (g.R.Row.items l.row)) ≡ gathered g.G.Gathering.with l.fn.start (drop l.half (g.R.Row.items l.row))
