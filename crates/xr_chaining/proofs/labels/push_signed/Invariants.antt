use Rattle.std.proofs.Common.{◌≡◌, ◌++◌, take}
use Rattle.xr_chaining.proofs.labels.push_signed.Given as goal

abbrev pub invariant-loop-number : goal.invariant-loop-number
invariant-loop-number l = l.out ≡ l.fn.out ++ take l.number-index l.numbers
