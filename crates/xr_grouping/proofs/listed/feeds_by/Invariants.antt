use Rattle.std.proofs.Common.{◌≡◌, ◌++◌, drop}
use Rattle.xr_types.specs.Names.{axis_names}
use Rattle.xr_groups.specs.Listed as of
use Rattle.xr_grouping.proofs.listed.feeds_by.Given as goal

abbrev pub invariant-loop-axis : goal.invariant-loop-axis
invariant-loop-axis l = l.out ++ of.feeds_by l.changes (axis_names (drop l.axis-index l.axes)) ≡ of.feeds_by l.changes (axis_names l.axes)
