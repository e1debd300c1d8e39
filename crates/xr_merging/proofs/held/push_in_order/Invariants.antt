use Rattle.std.proofs.Common.{◌≡◌, ◌++◌, map, drop}
use Rattle.xr_combination.specs.Pieces.{in_order}
use Rattle.xr_merging.specs.Held.{held_piece}
use Rattle.xr_merging.proofs.held.push_in_order.Given as goal

abbrev pub invariant-loop-one : goal.invariant-loop-one
invariant-loop-one l = l.out ++ map (in_order l.dims) (map held_piece (drop l.one-index l.held)) ≡ l.fn.out ++ map (in_order l.dims) (map held_piece l.held)
