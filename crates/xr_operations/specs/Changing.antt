-- Dimensions that are given other positions: each shows an old one, or none (xarray user guide, "Indexing and selecting data"). A
-- variable or coordinate is changed along those of the dimensions that it has.
use Rattle.std.specs.Prelude.{◌&&◌, ◌||◌, ℕ, ℤ, suc, Bool, false, List, [], ◌∷◌, length, map, unwrap_or, Option, Some, None, is_none, option_map, if◌then◌else◌}
use Rattle.std.specs.List.{list_any}
use Rattle.std.specs.Str.{bytes_eq}
use Rattle.xr_types.specs.Names.{axis_names}
use Rattle.xr_types.specs.declared.axis.Axis.{Axis}
use Rattle.xr_types.specs.declared.axis.Labels.{Labels}
use Rattle.xr_types.specs.declared.kind.DType.TheVariants.{Int64}
use Rattle.xr_arrays.specs.Arrays.{Array}
use Rattle.xr_arrays.specs.Nodes.{taken_from}
use Rattle.xr_defs.specs.Selecting.{variable_array}
use Rattle.xr_defs.specs.Values.{DataArray, Dataset, Variable, array_of, chosen_list}
use Rattle.xr_defs.specs.declared.value.Content.{Content}
use Rattle.xr_defs.specs.declared.value.Content.TheVariants as contents
use Rattle.xr_defs.specs.declared.value.Coord.{Coord}
use Rattle.xr_operations.specs.Alignment.{relisted}
use Rattle.xr_operations.specs.declared.change.Change.{Change}

-- ---- the new axes

abbrev pub change_called : List Change → List ℕ → Option Change
change_called [] name = None
change_called (c ∷ cs) name = if bytes_eq c.name name then Some c else change_called cs name

-- the old positions that are shown
abbrev pub shown : List (Option ℕ) → List ℕ
shown from = map (λ o. unwrap_or o 0) from

-- new labels are of the sort of the old ones, whole numbers of kind int64. The index keeps its attributes, and times their units.
abbrev pub new_list : Change → Labels → Labels
new_list c l = elim c.labels [ None ↦ record l { list = chosen_list l.list (shown c.from) } | Some ls ↦ record l { list = relisted Int64 l.list ls } ]

abbrev pub changed_axis : Axis → Option Change → Axis
changed_axis x None = x
changed_axis x (Some c) = record x { size = length c.from; labels = option_map (new_list c) x.labels }

abbrev pub new_axis : List Change → Axis → Axis
new_axis cs x = changed_axis x (change_called cs x.name)

-- ---- cells along the new axes

-- along axis number k
abbrev pub cells_by : Option ℤ → Array → ℕ → Option Change → Array
cells_by fill a k None = a
cells_by fill a k (Some c) = taken_from a k c.from fill

-- along the axes of these names, which stand from number k on
abbrev pub cells_along : List Change → Option ℤ → ℕ → List (List ℕ) → Array → Array
cells_along cs fill k [] a = a
cells_along cs fill k (d ∷ dims) a = cells_along cs fill (suc k) dims (cells_by fill a k (change_called cs d))

-- whether some position of a dimension shows no old one
abbrev pub is_open : Option Change → Bool
is_open None = false
is_open (Some c) = list_any is_none c.from

abbrev pub has_hole : List Change → List (List ℕ) → Bool
has_hole cs dims = list_any (λ d. is_open (change_called cs d)) dims

-- what stands there: a number, or a missing cell
abbrev pub fill_along : List Change → List (List ℕ) → Option ℤ → Option ℤ
fill_along cs dims fill = if has_hole cs dims then fill else None

-- masked where a missing cell comes in
abbrev pub masked_along : List Change → List (List ℕ) → Option ℤ → Bool → Bool
masked_along cs dims fill masked = masked || has_hole cs dims && is_none fill

abbrev pub changed_cells : List Change → List (List ℕ) → Option ℤ → Array → Array
changed_cells cs dims fill a = cells_along cs (fill_along cs dims fill) 0 dims a

abbrev pub changed_content : List Change → List (List ℕ) → Option ℤ → Content → Content
changed_content cs dims fill (contents.Cells a masked) = contents.Cells (changed_cells cs dims fill a) (masked_along cs dims fill masked)
changed_content cs dims fill (contents.Text t) = contents.Text t
changed_content cs dims fill (contents.Time coding t) = contents.Time coding t

abbrev pub changed_coord : List Change → Option ℤ → Coord → Coord
changed_coord cs fill c = record c { axes = map (new_axis cs) c.axes; content = changed_content cs (axis_names c.axes) fill c.content }

abbrev pub changed_array : List Change → Option ℤ → DataArray → DataArray
changed_array cs fill a =
    record a {
      axes = map (new_axis cs) a.axes;
      masked = masked_along cs (axis_names a.axes) fill a.masked;
      coords = map (changed_coord cs fill) a.coords;
      cells = (changed_cells cs (axis_names a.axes) fill (array_of a)).cells;
    }

abbrev pub changed_variable : List Change → Option ℤ → List Axis → Variable → Variable
changed_variable cs fill axes v =
    record v { masked = masked_along cs v.dims fill v.masked; cells = (changed_cells cs v.dims fill (variable_array axes v)).cells }

abbrev pub changed_set : List Change → Option ℤ → Dataset → Dataset
changed_set cs fill s =
    record s {
      axes = map (new_axis cs) s.axes;
      coords = map (changed_coord cs fill) s.coords;
      vars = map (changed_variable cs fill s.axes) s.vars;
    }
