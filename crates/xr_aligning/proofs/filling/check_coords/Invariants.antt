use Rattle.xr_aligning.proofs.Common.{List, Node, all_of, check_coord_by, drop, meaning, option_map, ◌≡◌}
use Rattle.xr_aligning.proofs.filling.check_coords.Given as goal

abbrev pub invariant-loop-coord : goal.invariant-loop-coord
invariant-loop-coord l = (nodes : List Node)
    → all_of (check_coord_by l.change.joined.now (option_map (λ v. meaning nodes v.now) l.fill)) (drop l.coord-index l.coords) ≡ all_of (check_coord_by l.change.joined.now (option_map (λ v. meaning nodes v.now) l.fill)) l.coords
