use Rattle.std.proofs.Common.{◌≡◌, ◌++◌, map, pos, take}
use Rattle.xr_chaining.proofs.labels.push_unsigned.Given as goal

abbrev pub invariant-loop-number : goal.invariant-loop-number
invariant-loop-number l = map pos l.out ≡ map pos l.fn.out ++ map pos (take l.number-index l.numbers)
