use Rattle.xr_changing.proofs.Common.{[], chosen, shown, take, ◌≡◌}
use Rattle.xr_changing.proofs.axes.chosen_texts.Given as goal

abbrev pub invariant-loop-at : goal.invariant-loop-at
invariant-loop-at l = l.out ≡ chosen [] l.list (shown (take l.at-index l.from))
