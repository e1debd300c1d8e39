use Rattle.std.proofs.Common.{◌≡◌, ◌+◌, ◌≤◌, drop}
use Rattle.fold_kernel.specs.Rows.{zeros}
use Rattle.fold_kernel.proofs.zeros.zeros_of_few.Given as goal

abbrev pub invariant-loop-i : goal.invariant-loop-i
invariant-loop-i l = record {
  counted : l.count + zeros (drop l.i l.bytes) ≡ zeros l.bytes;
  within : l.count ≤ l.i;
}
