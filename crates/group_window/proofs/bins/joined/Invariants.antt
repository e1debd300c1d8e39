use Rattle.std.proofs.Common.{◌≡◌, ◌++◌, drop, length}
use Rattle.group_window.specs.Lists.{all_in, ends_from}
use Rattle.group_window.proofs.bins.joined.Given as goal

abbrev pub invariant-loop-list : goal.invariant-loop-list
invariant-loop-list l =
    (l.positions ++ all_in (drop l.list-index l.lists) ≡ all_in l.lists) × (l.ends ++ ends_from (length l.positions) (drop l.list-index l.lists) ≡ ends_from 0 l.lists)
