use Rattle.std.proofs.Common.{◌≡◌, ◌++◌, drop}
use Rattle.xr_stacking.specs.Members.{parts_called}
use Rattle.xr_stacking.proofs.members.push_parts.Given as goal

abbrev pub invariant-loop-set : goal.invariant-loop-set
invariant-loop-set l = l.out ++ parts_called l.name (drop l.set-index l.sets) ≡ l.fn.out ++ parts_called l.name l.sets
