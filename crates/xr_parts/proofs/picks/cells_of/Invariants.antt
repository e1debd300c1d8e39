use Rattle.xr_parts.proofs.Common.{map, take, ◌≡◌}
use Rattle.xr_parts.proofs.picks.cells_of.Given as goal

abbrev pub invariant-loop-at : goal.invariant-loop-at
invariant-loop-at g l = map g.T.Elem.number l.out ≡ take l.at l.fn.numbers
