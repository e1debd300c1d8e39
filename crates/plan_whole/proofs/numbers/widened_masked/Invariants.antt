use Rattle.std.proofs.Common.{◌≡◌, ◌++◌, map, zip, drop, All}
use Rattle.xr_arrays.specs.Arrays.{IsCell, cell}
use Rattle.plan_whole.proofs.numbers.widened_masked.Given as goal

abbrev pub invariant-loop-i : goal.invariant-loop-i
invariant-loop-i g l = record {
  so_far : l.numbers.items ++ map cell (zip (map g.T.Elem.number (drop l.i l.cells)) (drop l.i l.mask)) ≡ map cell (zip (map g.T.Elem.number l.cells) l.mask);
  range : All (IsCell g.T.Elem.kind) l.numbers.items;
}
