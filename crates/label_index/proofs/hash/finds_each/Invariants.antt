use Rattle.std.proofs.Common.{◌≡◌, ℕ, ◌<◌, Some, get_or, pos}
use Rattle.label_index.specs.Slots.{shown, look}
use Rattle.label_index.proofs.hash.finds_each.Given as goal

abbrev pub invariant-loop-at : goal.invariant-loop-at
invariant-loop-at l = (p : ℕ) → p < l.at → look (shown l.numbers) l.slots (get_or (shown l.numbers) p (pos 0)) ≡ Some p
