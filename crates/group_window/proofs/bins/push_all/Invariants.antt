use Rattle.std.proofs.Common.{◌≡◌, ◌++◌, drop}
use Rattle.group_window.proofs.bins.push_all.Given as goal

abbrev pub invariant-loop-position : goal.invariant-loop-position
invariant-loop-position l = l.out ++ drop l.position-index l.list ≡ l.fn.out ++ l.list
