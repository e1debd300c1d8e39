use Rattle.std.proofs.Common.{◌≡◌, ◌++◌, drop}
use Rattle.xr_grouping.proofs.keys.signed.Given as goal

abbrev pub invariant-loop-number : goal.invariant-loop-number
invariant-loop-number l = l.out ++ drop l.number-index l.numbers ≡ l.numbers
