use Rattle.std.proofs.Common.{◌≡◌, ◌++◌, drop}
use Rattle.group_window.specs.Ranks.{ranks}
use Rattle.group_window.proofs.groups.ranks.Given as goal

abbrev pub invariant-loop-key : goal.invariant-loop-key
invariant-loop-key g l = l.out.items ++ ranks g.K.Ord.cmp l.distinct (drop l.key-index l.keys) ≡ ranks g.K.Ord.cmp l.distinct l.keys
