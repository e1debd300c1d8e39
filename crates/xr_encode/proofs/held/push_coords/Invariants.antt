use Rattle.std.proofs.Common.{◌≡◌, drop, map, Ok}
use Rattle.std.specs.List.{AllByRecursion}
use Rattle.xr_types.specs.Results.{all_of}
use Rattle.xr_defs.specs.Encoding.{stored_coord, check_fit}
use Rattle.xr_encode.specs.Walk.{vars_from, HasContent}
use Rattle.xr_encode.proofs.held.push_coords.Given as goal

abbrev pub invariant-loop-coord : goal.invariant-loop-coord
invariant-loop-coord l = record {
  each : AllByRecursion HasContent (map (λ c. c.now) (drop l.coord-index l.coords));
  fit : all_of (check_fit l.options) (map stored_coord (map (λ c. c.now) (drop l.coord-index l.coords))) ≡ Ok tt;
  vars : vars_from l.small l.dims l.options l.vars (map stored_coord (map (λ c. c.now) (drop l.coord-index l.coords))) ≡ vars_from l.small l.dims l.options l.fn.vars (map stored_coord (map (λ c. c.now) l.coords));
}
