use Rattle.std.proofs.Common.{◌≡◌, ◌++◌, map, drop, Some}
use Rattle.xr_grouping.proofs.cells.widened.Given as goal

abbrev pub invariant-loop-i : goal.invariant-loop-i
invariant-loop-i g l = l.keys.items ++ map Some (map g.T.Elem.number (drop l.i l.cells)) ≡ map Some (map g.T.Elem.number l.cells)
