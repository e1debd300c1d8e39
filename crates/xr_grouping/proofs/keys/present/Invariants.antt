use Rattle.std.proofs.Common.{◌≡◌, ◌++◌, drop}
use Rattle.xr_groups.specs.Groups as of
use Rattle.xr_grouping.proofs.keys.present.Given as goal

abbrev pub invariant-loop-number : goal.invariant-loop-number
invariant-loop-number l = l.keys.items ++ of.each_key (drop l.number-index l.numbers) ≡ of.each_key l.numbers
