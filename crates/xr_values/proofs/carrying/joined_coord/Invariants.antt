use Rattle.xr_values.proofs.Common.{Coord, filter, flat_map, map, named_as, take, ◌≡◌}
use Rattle.xr_values.proofs.carrying.joined_coord.Given as goal

abbrev pub invariant-loop-other : goal.invariant-loop-other
invariant-loop-other l = map (λ a. a.now) l.attrs.items ≡ flat_map (λ attrs. attrs) (map (λ (c : Coord). c.attrs) (filter (named_as l.coord) (map (λ c. c.now) (take l.other-index l.all))))
