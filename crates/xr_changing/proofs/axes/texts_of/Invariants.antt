use Rattle.xr_changing.proofs.Common.{map, take, text_of, ◌≡◌}
use Rattle.xr_changing.proofs.axes.texts_of.Given as goal

abbrev pub invariant-loop-label : goal.invariant-loop-label
invariant-loop-label l = l.texts ≡ map text_of (take l.label-index l.labels)
