use Rattle.std.proofs.Common.{length}
use Rattle.xr_grouping.proofs.listed.+is_changed.Given as goal

abbrev pub decreases-is_changed : goal.decreases-is_changed
decreases-is_changed l = length l.changes.now
