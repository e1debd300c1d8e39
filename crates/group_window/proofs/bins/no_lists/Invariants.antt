use Rattle.std.proofs.Common.{◌≡◌, [], map, ℕ}
use Rattle.std.specs.List.{range_with_len}
use Rattle.group_window.proofs.bins.no_lists.Given as goal

abbrev pub invariant-loop : goal.invariant-loop
invariant-loop l = l.lists.items ≡ map (λ (j : ℕ). []) (range_with_len 0 l.counter)
