-- Coordinates whose cells are arrays, and what stands for those of one name.
use Rattle.std.specs.Prelude.{ℕ, List, ⊤, if◌then◌else◌}
use Rattle.std.specs.List.{AllByRecursion}
use Rattle.xr_types.specs.Names.{among, axis_names}
use Rattle.xr_types.specs.declared.axis.Axis.{Axis}
use Rattle.xr_arrays.specs.Arrays.{IsArray}
use Rattle.xr_combination.specs.Concat.{coord_concatenated, coord_kept}
use Rattle.xr_defs.specs.Values as of
use Rattle.xr_defs.specs.WellFormed.{IsCoordinate}
use Rattle.xr_defs.specs.declared.value.Content.{Content}
use Rattle.xr_defs.specs.declared.value.Content.TheVariants as contents
use Rattle.xr_defs.specs.declared.value.Coord.{Coord}
use Rattle.xr_merging.specs.declared.held.Held.{Held}

-- coordinates over axes of their dataset
abbrev pub HasCoordinates : of.Dataset → Type 0
HasCoordinates s = AllByRecursion (IsCoordinate s.axes) s.coords

abbrev pub IsWholeContent : Content → Type 0
IsWholeContent (contents.Cells a masked) = IsArray a
IsWholeContent (contents.Text t) = ⊤
IsWholeContent (contents.Time coding t) = ⊤

abbrev pub IsWhole : Coord → Type 0
IsWhole c = IsWholeContent c.content

abbrev pub AreWhole : List Coord → Type 0
AreWhole cs = AllByRecursion IsWhole cs

abbrev pub HoldsWhole : Held → Type 0
HoldsWhole h = IsArray h.cells.now

-- of those of one name, which all values have
abbrev pub coord_found : List ℕ → List Axis → Coord → List Coord → List Coord
coord_found dim axes c cs = if among (axis_names c.axes) dim then coord_concatenated dim axes c cs else coord_kept c cs
