use Rattle.std.proofs.Common.{◌≡◌, ◌/◌, map, take, length}
use Rattle.xr_types.specs.Widths.{width}
use Rattle.stored_cells.proofs.NumbersInBytes.{numbers_to}
use Rattle.stored_cells.proofs.decode.cells_of.Given as goal

abbrev pub invariant-loop-i : goal.invariant-loop-i
invariant-loop-i g l = record {
  whole : length l.out.items ≡ l.i-end;
  count : l.i-end ≡ length l.raw / width g.T.Number.spelt;
  numbers : map g.T.Elem.number (take l.i l.out.items) ≡ numbers_to g.T.Number.spelt l.raw l.i;
}
