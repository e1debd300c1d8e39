use Rattle.std.proofs.Common.{◌≡◌, ◌++◌, drop, map, pos}
use Rattle.xr_grouping.proofs.keys.unsigned.Given as goal

abbrev pub invariant-loop-number : goal.invariant-loop-number
invariant-loop-number l = map pos l.out ++ drop l.number-index l.numbers ≡ l.numbers
