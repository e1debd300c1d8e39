-- Variables of the program by their names, and the axes that something has.
use Rattle.std.specs.Prelude.{◌||◌}
use Rattle.xr_types.specs.Results.{◌>>=◌}
use Rattle.xr_parts.specs.Common.{Axis, Bool, Coord, DataArray, Dataset, Fault, Given, List, NoVariable, Ok, Result, Variable, [], all_of, among, axis_names, bytes_eq, coords_left, filter, has_coordinate, is_some, list_any, map, names_given, not, unlabelled, unless, ℕ}

abbrev pub has_variable : List Variable → List ℕ → Bool
has_variable vs name = list_any (λ (v : Variable). bytes_eq v.name name) vs

abbrev pub vars_left : List (List ℕ) → List Variable → List Variable
vars_left names vs = filter (λ (v : Variable). not (among names v.name)) vs

-- an axis that has labels, or that a coordinate or a variable has
unfoldable pub is_held : List Coord → List Variable → Axis → Bool
is_held coords vs x = is_some x.labels || list_any (λ (c : Coord). among (axis_names c.axes) x.name) coords || list_any (λ (v : Variable). among v.dims x.name) vs

-- each name is one that can be dropped
abbrev pub check_names : List Variable → List Axis → List Coord → List (List ℕ) → Result (Unit {0}) Fault
check_names vs axes coords names = all_of (λ n. unless (has_variable vs n || has_coordinate axes coords n) (NoVariable n)) names

-- the names of a call, each one that can be dropped
unfoldable pub names_checked : List Variable → List Axis → List Coord → Given → Result (List (List ℕ)) Fault
names_checked vs axes coords g = names_given g >>= λ names. check_names vs axes coords names >>= λ u. Ok names

abbrev pub array_without : List (List ℕ) → DataArray → DataArray
array_without names a = record a { axes = map (unlabelled names) a.axes; coords = coords_left names [] a.coords }

abbrev pub set_without : List (List ℕ) → Dataset → Dataset
set_without names s =
    record {
      axes = filter (is_held (coords_left names [] s.coords) (vars_left names s.vars)) (map (unlabelled names) s.axes);
      coords = coords_left names [] s.coords;
      vars = vars_left names s.vars;
      attrs = s.attrs;
      skipped = s.skipped;
    }
