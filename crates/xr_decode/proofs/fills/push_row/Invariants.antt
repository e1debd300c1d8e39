use Rattle.std.proofs.Common.{◌≡◌, ◌++◌, map, take}
use Rattle.xr_decode.proofs.fills.push_row.Given as goal

abbrev pub invariant-loop-n : goal.invariant-loop-n
invariant-loop-n g l = l.out ≡ l.fn.out ++ map g.T.Elem.number (take l.n-index l.numbers)
