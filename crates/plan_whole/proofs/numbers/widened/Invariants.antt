use Rattle.std.proofs.Common.{◌≡◌, ◌++◌, map, drop, Some, All}
use Rattle.xr_arrays.specs.Arrays.{IsCell}
use Rattle.plan_whole.proofs.numbers.widened.Given as goal

abbrev pub invariant-loop-i : goal.invariant-loop-i
invariant-loop-i g l = record {
  so_far : l.numbers.items ++ map Some (map g.T.Elem.number (drop l.i l.cells)) ≡ map Some (map g.T.Elem.number l.cells);
  range : All (IsCell g.T.Elem.kind) l.numbers.items;
}
