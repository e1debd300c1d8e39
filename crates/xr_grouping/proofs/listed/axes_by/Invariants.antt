use Rattle.std.proofs.Common.{◌≡◌, ◌++◌, drop}
use Rattle.xr_groups.specs.Listed as of
use Rattle.xr_grouping.proofs.listed.axes_by.Given as goal

abbrev pub invariant-loop-axis : goal.invariant-loop-axis
invariant-loop-axis l = l.out ++ of.axes_by l.changes (drop l.axis-index l.axes) ≡ of.axes_by l.changes l.axes
