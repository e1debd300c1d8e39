use Rattle.xr_changing.proofs.Common.{chosen, shown, take, ◌≡◌}
use Rattle.xr_changing.proofs.axes.chosen_numbers.Given as goal

abbrev pub invariant-loop-at : goal.invariant-loop-at
invariant-loop-at g l = (d : g.row.T.Denot) → l.out.items ≡ chosen d l.list (shown (take l.at-index l.from))
