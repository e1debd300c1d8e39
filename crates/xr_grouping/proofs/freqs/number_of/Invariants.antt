use Rattle.std.proofs.Common.{◌≡◌, ◌≤◌, ◌+◌, ◌-◌, ◌*◌, drop, fold}
use Rattle.xr_groups.specs.Calls as calls
use Rattle.xr_grouping.proofs.Widths.{tens}
use Rattle.xr_grouping.proofs.freqs.number_of.Given as goal

abbrev pub invariant-loop-byte : goal.invariant-loop-byte
invariant-loop-byte l = (fold (λ n c. 10 * n + (c - 48)) l.number (drop l.byte-index l.digits) ≡ calls.number_of l.digits) × (l.number + 300 ≤ 300 * tens l.byte-index)
