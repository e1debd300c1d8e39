-- Axes and coordinates as they have to be, however long.
use Rattle.std.specs.Prelude.{◌≡◌, ◌++◌, true, ℕ, List, MatchOption, ⊤}
use Rattle.std.specs.List.{AllByRecursion}
use Rattle.xr_types.specs.declared.axis.Axis.{Axis}
use Rattle.xr_types.specs.Names.{are_distinct, axis_names, shape_over}
use Rattle.xr_files.specs.Classic.{is_name}
use Rattle.xr_defs.specs.declared.value.Coord.{Coord}
use Rattle.xr_defs.specs.Building.{Frame}
use Rattle.xr_defs.specs.WellFormed.{IsIndex, IsCoordinate, labelled, names_of}

pub record IsOpenAxis (x : Axis) : Type 0 where
  pub name : is_name x.name ≡ true
  pub index : MatchOption x.labels ⊤ (IsIndex x.size)

pub record IsFrame (axes : List Axis) (coords : List Coord) : Type 0 where
  pub each : AllByRecursion IsOpenAxis axes
  pub axes_distinct : are_distinct (axis_names axes) ≡ true
  pub over : AllByRecursion (IsCoordinate axes) coords
  pub distinct : are_distinct (axis_names axes ++ names_of coords) ≡ true

-- no name of an index, a coordinate or a variable stands twice
abbrev pub Apart : List (List ℕ) → Frame → Type 0
Apart variables f = are_distinct (axis_names (labelled f.axes) ++ (names_of f.coords ++ variables)) ≡ true

-- what entries leave of a frame
pub record Stays (variables : List (List ℕ)) (f g : Frame) : Type 0 where
  pub frame : IsFrame g.axes g.coords
  pub names : axis_names g.axes ≡ axis_names f.axes
  pub sizes : shape_over g.axes ≡ shape_over f.axes
  pub apart : Apart variables f → Apart variables g
