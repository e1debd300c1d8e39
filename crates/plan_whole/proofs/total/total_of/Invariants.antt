use Rattle.std.proofs.Common.{◌≡◌, ◌+ℤ◌, drop, map}
use Rattle.std.specs.Int.{int_wrap, w64}
use Rattle.xr_arrays.specs.Folds.{sum_of}
use Rattle.plan_whole.proofs.total.total_of.Given as goal

abbrev pub invariant-loop-cell : goal.invariant-loop-cell
invariant-loop-cell g l = int_wrap w64 (l.sum +ℤ sum_of (map g.T.Elem.number (drop l.cell-index l.cells))) ≡ int_wrap w64 (sum_of (map g.T.Elem.number l.cells))
