use Rattle.std.proofs.Common.{◌≡◌, ◌++◌, map, zip, drop}
use Rattle.xr_arrays.specs.Arrays.{cell}
use Rattle.xr_grouping.proofs.cells.widened_masked.Given as goal

abbrev pub invariant-loop-i : goal.invariant-loop-i
invariant-loop-i g l = l.keys.items ++ map cell (zip (map g.T.Elem.number (drop l.i l.cells)) (drop l.i l.mask)) ≡ map cell (zip (map g.T.Elem.number l.cells) l.mask)
