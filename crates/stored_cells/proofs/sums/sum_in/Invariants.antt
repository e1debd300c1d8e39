use Rattle.std.proofs.Common.{◌≡◌}
use Rattle.std.specs.Int.{w64, int_wrap}
use Rattle.stored_cells.proofs.Counted.{sum_to}
use Rattle.stored_cells.proofs.sums.sum_in.Given as goal

abbrev pub invariant-loop-i : goal.invariant-loop-i
invariant-loop-i g l = l.total ≡ int_wrap w64 (sum_to g.T.Number.spelt l.raw (g.F.Fills.numbers l.fills) l.i)
