use Rattle.std.proofs.Common.{take}
use Rattle.std.specs.List.{AllByRecursion}
use Rattle.xr_defs.specs.WellFormed.{IsCoordinate}
use Rattle.xr_aligning.specs.Fitted.{AreFitted}
use Rattle.xr_aligning.proofs.coords.push_coords.Given as goal

abbrev pub invariant-loop-coord : goal.invariant-loop-coord
invariant-loop-coord l = AllByRecursion (IsCoordinate l.change.own.now) l.coords → AreFitted l.change.joined.now l.change.fill l.change.own.now l.fn.out (take l.coord-index l.coords) l.out
