use Rattle.std.proofs.Common.{◌≡◌, ◌++◌, drop, false}
use Rattle.xr_groups.specs.Listed as of
use Rattle.xr_grouping.proofs.listed.coords_left.Given as goal

abbrev pub invariant-loop-coord : goal.invariant-loop-coord
invariant-loop-coord l = l.out ++ of.coords_by false l.changes (drop l.coord-index l.coords) ≡ of.coords_by false l.changes l.coords
