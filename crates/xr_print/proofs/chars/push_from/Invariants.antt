use Rattle.std.proofs.Common.{◌≡◌, ◌++◌, drop}
use Rattle.xr_defs.specs.Printing.{chars_from}
use Rattle.xr_print.proofs.chars.push_from.Given as goal

abbrev pub invariant-loop-i : goal.invariant-loop-i
invariant-loop-i l = l.out.items ++ chars_from l.left (drop l.i l.bytes) ≡ l.fn.out.items ++ chars_from 0 l.bytes
