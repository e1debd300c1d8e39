use Rattle.std.proofs.Common.{◌≡◌, ◌++◌, map, drop}
use Rattle.xr_combination.specs.Pieces.{kinds_of}
use Rattle.xr_merging.specs.Held.{held_piece}
use Rattle.xr_merging.proofs.held.push_kinds.Given as goal

abbrev pub invariant-loop-one : goal.invariant-loop-one
invariant-loop-one l = l.out ++ kinds_of (map held_piece (drop l.one-index l.held)) ≡ l.fn.out ++ kinds_of (map held_piece l.held)
