use Rattle.xr_changing.proofs.Common.{All, InRange, Int64, map, number_of, take, ◌≡◌}
use Rattle.xr_changing.proofs.axes.numbers_of.Given as goal

abbrev pub invariant-loop-label : goal.invariant-loop-label
invariant-loop-label l = (l.numbers ≡ map number_of (take l.label-index l.labels)) × All (InRange Int64) l.numbers
