use Rattle.std.proofs.Common.{◌≡◌, ◌++◌, take}
use Rattle.xr_encode.proofs.fill.push_integers.Given as goal

abbrev pub invariant-loop-i : goal.invariant-loop-i
invariant-loop-i l = l.numbers ≡ l.fn.numbers ++ take l.i l.more
