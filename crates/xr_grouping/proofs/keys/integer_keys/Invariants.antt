use Rattle.std.proofs.Common.{◌≡◌, ◌++◌, drop}
use Rattle.xr_groups.specs.Groups as of
use Rattle.xr_grouping.proofs.keys.integer_keys.Given as goal

abbrev pub invariant-loop-at : goal.invariant-loop-at
invariant-loop-at l = l.keys.items ++ of.each_key (drop l.at l.numbers) ≡ of.each_key l.numbers
