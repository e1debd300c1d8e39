use Rattle.std.proofs.Common.{◌≡◌, ◌++◌, map, drop}
use Rattle.std.specs.List.{flat_map}
use Rattle.xr_combination.specs.Concat.{coord_pieces}
use Rattle.xr_combination.specs.Merge.{have_cells}
use Rattle.xr_merging.specs.Held.{held_piece}
use Rattle.xr_merging.proofs.held.push_held.Given as goal

abbrev pub invariant-loop-coord : goal.invariant-loop-coord
invariant-loop-coord l = record {
  all : have_cells (map (λ c. c.now) (drop l.coord-index l.coords)) ≡ have_cells (map (λ c. c.now) l.coords);
  held : map held_piece l.out ++ flat_map coord_pieces (map (λ c. c.now) (drop l.coord-index l.coords)) ≡ map held_piece l.fn.out ++ flat_map coord_pieces (map (λ c. c.now) l.coords);
}
