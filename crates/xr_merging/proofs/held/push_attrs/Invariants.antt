use Rattle.std.proofs.Common.{◌≡◌, ◌++◌, map, drop}
use Rattle.xr_combination.specs.Pieces.{Piece}
use Rattle.xr_values.specs.Carrying.{the_attrs}
use Rattle.xr_merging.specs.Held.{held_piece}
use Rattle.xr_merging.proofs.held.push_attrs.Given as goal

abbrev pub invariant-loop-one : goal.invariant-loop-one
invariant-loop-one l = the_attrs l.out ++ map (λ (p : Piece). p.attrs) (map held_piece (drop l.one-index l.held)) ≡ the_attrs l.fn.out ++ map (λ (p : Piece). p.attrs) (map held_piece l.held)
