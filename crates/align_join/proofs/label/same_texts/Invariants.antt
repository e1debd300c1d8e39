use Rattle.std.proofs.Common.{◌≡◌, ◌<◌, ℕ, [], true, get_or}
use Rattle.xr_types.specs.declared.axis.Label.TheVariants.{Text}
use Rattle.xr_arrays.specs.Labels.{same}
use Rattle.align_join.proofs.label.same_texts.Given as goal

abbrev pub invariant-loop-at : goal.invariant-loop-at
invariant-loop-at l = (k : ℕ) → k < l.at → same (Text (get_or l.a k [])) (Text (get_or l.b k [])) ≡ true
