-- Arrays and datasets as they have to be: names that differ and aren't empty, as many labels as positions, a cell of the kind for
-- each point, missing only where the array is masked, and no more of all than the limits allow (xarray user guide, "Data
-- Structures").
use Rattle.std.specs.Prelude.{◌≡◌, ◌≤◌, ◌++◌, ◌+◌, ◌/◌, ◌*◌, ℕ, ℤ, Bool, true, false, List, [], length, map, filter, Option, is_some, MatchOption, All, ⊤}
use Rattle.std.specs.List.{AllByRecursion, list_all}
use Rattle.xr_types.specs.Kinds.{InRange}
use Rattle.xr_types.specs.declared.attr.Attr.{Attr}
use Rattle.xr_types.specs.declared.axis.Axis.{Axis}
use Rattle.xr_types.specs.declared.axis.Labels.{Labels}
use Rattle.xr_types.specs.declared.axis.LabelList.{LabelList}
use Rattle.xr_types.specs.declared.axis.LabelList.TheVariants.{Numbers, Times, Texts}
use Rattle.xr_types.specs.declared.kind.DType.{DType}
use Rattle.xr_defs.specs.declared.value.Content.{Content}
use Rattle.xr_defs.specs.declared.value.Content.TheVariants as contents
use Rattle.xr_defs.specs.declared.value.Coord.{Coord}
use Rattle.xr_types.specs.Points.{size}
use Rattle.xr_arrays.specs.Arrays.{IsCell}
use Rattle.xr_types.specs.Names.{among}
use Rattle.xr_types.specs.Widths.{width}
use Rattle.xr_files.specs.Classic.{attr_names, is_name}
use Rattle.xr_types.specs.Names.{are_distinct}
use Rattle.xr_defs.specs.Limits.{most_cells, most_dimensions, most_variables}
use Rattle.xr_types.specs.Names.{axis_names, shape_over}
use Rattle.xr_defs.specs.Values.{DataArray, Dataset, Variable, label_count}
use Rattle.xr_defs.specs.Selecting.{axis_called}
use Rattle.xr_defs.specs.Decoding.{is_kept}
use Rattle.xr_defs.specs.Building.{is_integer_kind}
use Rattle.xr_times.specs.Times.{IsTime}

-- ---- attributes

-- its values are whole ones of their type
pub record IsAttribute (a : Attr) : Type 0 where
  pub name : is_name a.name ≡ true
  pub whole : length a.raw ≡ (length a.raw / width a.kind) * width a.kind

pub record AreAttributes (attrs : List Attr) : Type 0 where
  pub each : AllByRecursion IsAttribute attrs
  pub distinct : are_distinct (attr_names attrs) ≡ true

-- ---- axes

-- whole numbers are of an integer kind and in its range, and times stand in the years 1 to 9999 of their calendar
abbrev pub AreLabels : LabelList → Type 0
AreLabels (Numbers kind ns) = (is_integer_kind kind ≡ true) × All (InRange kind) ns
AreLabels (Times coding ts) = All (IsTime coding.units.calendar) ts
AreLabels (Texts ts) = ⊤

pub record IsIndex (n : ℕ) (l : Labels) : Type 0 where
  pub whole : label_count l.list ≡ n
  pub range : AreLabels l.list
  pub attrs : AreAttributes l.attrs

pub record IsDimension (x : Axis) : Type 0 where
  pub name : is_name x.name ≡ true
  pub few : x.size ≤ most_cells
  pub index : MatchOption x.labels ⊤ (IsIndex x.size)

pub record AreDimensions (axes : List Axis) : Type 0 where
  pub each : AllByRecursion IsDimension axes
  pub distinct : are_distinct (axis_names axes) ≡ true

-- ---- cells

-- no cell is missing, unless the array is masked
abbrev pub AreSeen : Bool → List (Option ℤ) → Type 0
AreSeen masked cells = masked ≡ false → All (λ c. is_some c ≡ true) cells

-- a cell of the kind for each point, and no more dimensions and cells than an array may have
pub record AreCells (shape : List ℕ) (kind : DType) (masked : Bool) (cells : List (Option ℤ)) : Type 0 where
  pub whole : length cells ≡ size shape
  pub range : All (IsCell kind) cells
  pub seen : AreSeen masked cells
  pub low_rank : length shape ≤ most_dimensions
  pub few : size shape ≤ most_cells

-- ---- coordinates that are no index

abbrev pub IsContent : List ℕ → Content → Type 0
IsContent shape (contents.Cells a masked) = (a.shape ≡ shape) × AreCells shape a.kind masked a.cells
IsContent shape (contents.Text text) = shape ≡ []
IsContent shape (contents.Time coding t) = (shape ≡ []) × IsTime coding.units.calendar t

-- each of its axes is one of these
pub record IsCoordinate (axes : List Axis) (c : Coord) : Type 0 where
  pub name : is_name c.name ≡ true
  pub over : AllByRecursion (λ (x : Axis). (among (axis_names axes) x.name ≡ true) × (axis_called axes x.name ≡ x)) c.axes
  pub distinct : are_distinct (axis_names c.axes) ≡ true
  pub attrs : AreAttributes c.attrs
  pub content : IsContent (shape_over c.axes) c.content

abbrev pub names_of : List Coord → List (List ℕ)
names_of coords = map (λ (c : Coord). c.name) coords

-- ---- arrays

pub record IsDataArray (a : DataArray) : Type 0 where
  pub name : MatchOption a.name ⊤ (λ n. is_name n ≡ true)
  pub axes : AreDimensions a.axes
  pub coords : AllByRecursion (IsCoordinate a.axes) a.coords
  pub distinct : are_distinct (axis_names a.axes ++ names_of a.coords) ≡ true
  pub attrs : AreAttributes a.attrs
  pub cells : AreCells (shape_over a.axes) a.kind a.masked a.cells

-- ---- datasets

-- the axes that it names are there, each once
pub record IsVariable (axes : List Axis) (v : Variable) : Type 0 where
  pub name : is_name v.name ≡ true
  pub over : AllByRecursion (λ d. among (axis_names axes) d ≡ true) v.dims
  pub distinct : are_distinct v.dims ≡ true
  pub attrs : AreAttributes v.attrs
  pub cells : AreCells (map (λ d. (axis_called axes d).size) v.dims) v.kind v.masked v.cells

abbrev pub variable_names : List Variable → List (List ℕ)
variable_names vs = map (λ (v : Variable). v.name) vs

-- the axes that have an index
abbrev pub labelled : List Axis → List Axis
labelled axes = filter (λ (x : Axis). is_some x.labels) axes

pub record IsDataset (s : Dataset) : Type 0 where
  pub axes : AreDimensions s.axes
  pub coords : AllByRecursion (IsCoordinate s.axes) s.coords
  pub vars : AllByRecursion (IsVariable s.axes) s.vars
  -- no coordinate is named as an axis, and no variable as a coordinate or an index
  pub coords_distinct : are_distinct (axis_names s.axes ++ names_of s.coords) ≡ true
  pub vars_distinct : are_distinct (axis_names (labelled s.axes) ++ (names_of s.coords ++ variable_names s.vars)) ≡ true
  -- a bare axis is one of a coordinate or a variable
  pub busy : list_all (is_kept s.coords s.vars) s.axes ≡ true
  pub attrs : AreAttributes s.attrs
  pub few : length s.coords + length s.vars ≤ most_variables
