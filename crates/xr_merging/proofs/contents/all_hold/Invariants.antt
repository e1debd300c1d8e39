use Rattle.std.proofs.Common.{◌≡◌, map, drop}
use Rattle.std.specs.List.{list_all}
use Rattle.xr_defs.specs.Carrying.{same_content}
use Rattle.xr_defs.specs.declared.value.Coord.{Coord}
use Rattle.xr_merging.proofs.contents.all_hold.Given as goal

abbrev pub invariant-loop-coord : goal.invariant-loop-coord
invariant-loop-coord l = list_all (λ (c : Coord). same_content l.content c.content) (map (λ c. c.now) (drop l.coord-index l.coords)) ≡ list_all (λ (c : Coord). same_content l.content c.content) (map (λ c. c.now) l.coords)
