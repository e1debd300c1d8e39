use Rattle.std.proofs.Common.{◌≡◌, drop}
use Rattle.std.specs.Cmp.Lexicographic.{pointwise}
use Rattle.xr_defs.specs.Carrying.{same_cell}
use Rattle.xr_merging.proofs.cells.same_typed.Given as goal

abbrev pub invariant-loop-at : goal.invariant-loop-at
invariant-loop-at l = pointwise same_cell (drop l.at l.a.cells) (drop l.at l.b.cells) ≡ pointwise same_cell l.a.cells l.b.cells
