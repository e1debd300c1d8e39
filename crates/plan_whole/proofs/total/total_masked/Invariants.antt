use Rattle.std.proofs.Common.{◌≡◌, ◌+ℤ◌, drop, map, zip}
use Rattle.std.specs.Int.{int_wrap, w64}
use Rattle.xr_arrays.specs.Arrays.{cell}
use Rattle.xr_arrays.specs.Folds.{sum_of}
use Rattle.plan_core.specs.Rows.{those}
use Rattle.plan_whole.proofs.total.total_masked.Given as goal

abbrev pub invariant-loop-i : goal.invariant-loop-i
invariant-loop-i g l = int_wrap w64 (l.sum +ℤ sum_of (those (map cell (zip (map g.T.Elem.number (drop l.i l.cells)) (drop l.i l.mask))))) ≡ int_wrap w64 (sum_of (those (map cell (zip (map g.T.Elem.number l.cells) l.mask))))
