use Rattle.std.proofs.Common.{◌≡◌, ◌≤◌, ◌-◌, take}
use Rattle.xr_arrays.specs.Arrays.{hidden, wide, kind_of}
use Rattle.cell_strips.specs.Strips.{IsWhole}
use Rattle.cell_strips.proofs.collect.collect_cells.Given as goal

abbrev pub invariant-strips : goal.invariant-strips
invariant-strips g l = record {
  inside : l.from ≤ l.total;
  whole : IsWhole l.all;
  kind : kind_of l.all.cells ≡ (g.S.Strips.whole l.source).kind;
  cells : hidden (wide l.all.cells) l.all.mask ≡ take l.from (g.S.Strips.whole l.source).cells;
}

abbrev pub decreases-strips : goal.decreases-strips
decreases-strips g l = l.total - l.from
