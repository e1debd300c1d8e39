-- Coordinates that are as they have to be over the axes of their dataset.
use Rattle.std.specs.List.{AllByRecursion}
use Rattle.xr_defs.specs.Values as of
use Rattle.xr_defs.specs.WellFormed.{IsCoordinate}

abbrev pub HasCoordinates : of.Dataset → Type 0
HasCoordinates s = AllByRecursion (IsCoordinate s.axes) s.coords
