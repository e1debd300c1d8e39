-- Arrays and datasets brought over joined axes, and a variable that is put into a dataset (xarray user guide, "Automatic alignment";
-- `xarray.align`, and `Dataset.__setitem__`, which aligns to the dataset's labels).
use Rattle.std.specs.Prelude.{◌==◌, ◌&&◌, ◌||◌, ℕ, ℤ, Bool, false, not, List, [], ◌∷◌, ◌++◌, length, map, Option, Some, None, is_some, Result, Ok, nat_le, if◌then◌else◌, codes}
use Rattle.std.specs.Str.{bytes_eq}
use Rattle.std.specs.List.{filter, list_any}
use Rattle.xr_types.specs.Names.{among, axis_names}
use Rattle.xr_types.specs.Results.{◌>>=◌, unless, all_of}
use Rattle.xr_types.specs.declared.axis.Axis.{Axis}
use Rattle.xr_types.specs.declared.fault.Fault.{Fault}
use Rattle.xr_types.specs.declared.fault.Fault.TheVariants.{BadArgument, DuplicateName}
use Rattle.xr_types.specs.declared.kind.DType.{DType}
use Rattle.xr_types.specs.declared.operation.How.{How}
use Rattle.xr_types.specs.declared.operation.How.TheVariants as how
use Rattle.xr_defs.specs.Arguments.{as_text, unfit, wrong}
use Rattle.xr_defs.specs.Building.{bound, option, truth_number}
use Rattle.xr_defs.specs.Meanings as of
use Rattle.xr_defs.specs.Meanings.{Given, Value}
use Rattle.xr_defs.specs.Parts.{as_variable, axes_called, without_idle}
use Rattle.xr_defs.specs.Selecting.{check_array, check_set, variable_array}
use Rattle.xr_defs.specs.Values.{DataArray, Dataset, Variable}
use Rattle.xr_defs.specs.declared.value.Content.{Content}
use Rattle.xr_defs.specs.declared.value.Content.TheVariants as contents
use Rattle.xr_defs.specs.declared.value.Coord.{Coord}
use Rattle.xr_operations.specs.Alignment.{aligned, fitted, fitted_cells, fitted_coord, has_hole, joined_in, masked_with}
use Rattle.xr_operations.specs.CellMethods.{check_fits, literal_for}

-- ---- values over joined axes

-- a variable over these axes of its dataset, of which some are joined
abbrev pub fitted_variable : List Axis → List Axis → Option ℤ → Variable → Variable
fitted_variable joined axes fill v =
    let own = axes_called axes v.dims in
    record v { masked = masked_with v.masked fill (has_hole joined own); cells = (fitted_cells joined own fill (variable_array axes v)).cells }

-- each variable and coordinate by the dimensions that it has
unfoldable pub fitted_set : List Axis → Option ℤ → Dataset → Dataset
fitted_set joined fill s =
    record s {
      axes = map (joined_in joined) s.axes;
      coords = map (fitted_coord joined fill) s.coords;
      vars = map (fitted_variable joined s.axes fill) s.vars;
    }

-- the joined axes of the names that have labels among these axes: a bare axis stays bare
abbrev pub has_labels : List Axis → Axis → Bool
has_labels own j = list_any (λ (x : Axis). bytes_eq x.name j.name && is_some x.labels) own

abbrev pub with_labels : List Axis → List Axis → List Axis
with_labels own joined = filter (has_labels own) joined

abbrev pub axes_of : Value → List Axis
axes_of (of.Array a) = a.axes
axes_of (of.Set s) = s.axes
axes_of v = []

abbrev pub fitted_value : List Axis → Option ℤ → Value → Value
fitted_value joined fill (of.Array a) = of.Array (fitted (with_labels a.axes joined) fill a)
fitted_value joined fill (of.Set s) = of.Set (fitted_set (with_labels s.axes joined) fill s)
fitted_value joined fill v = v

-- ---- the fill

-- a number, a truth value or `NA`
unfoldable pub check_literal : Value → Result (Unit {0}) Fault
check_literal (of.Number n) = Ok tt
check_literal (of.Truth b) = Ok tt
check_literal of.Missing = Ok tt
check_literal v = wrong

abbrev pub fill_cell : Option Value → Option ℤ
fill_cell (Some (of.Number n)) = Some n
fill_cell (Some (of.Truth b)) = Some (truth_number b)
fill_cell other = None

-- one for cells of this kind
unfoldable pub check_fill_for : DType → Option Value → Result (Unit {0}) Fault
check_fill_for t None = Ok tt
check_fill_for t (Some of.Missing) = Ok tt
check_fill_for t (Some v) = literal_for t v >>= λ n. check_fits t n

-- where cells of this kind over these axes have a position without a source
unfoldable pub check_hole : List Axis → Option Value → List Axis → DType → Result (Unit {0}) Fault
check_hole joined fill own t = if has_hole joined own then check_fill_for t fill else Ok tt

unfoldable pub check_content : List Axis → Option Value → List Axis → Content → Result (Unit {0}) Fault
check_content joined fill own (contents.Cells a masked) = check_hole joined fill own a.kind
check_content joined fill own (contents.Text t) = Ok tt
check_content joined fill own (contents.Time coding t) = Ok tt

abbrev pub check_coords : List Axis → Option Value → List Coord → Result (Unit {0}) Fault
check_coords joined fill coords = all_of (λ (c : Coord). check_content joined fill c.axes c.content) coords

abbrev pub check_variables : List Axis → Option Value → List Axis → List Variable → Result (Unit {0}) Fault
check_variables joined fill axes vars = all_of (λ (v : Variable). check_hole joined fill (axes_called axes v.dims) v.kind) vars

-- an array or the variables in order, then the coordinates
unfoldable pub check_fill : List Axis → Option Value → Value → Result (Unit {0}) Fault
check_fill joined fill (of.Array a) = (let js = with_labels a.axes joined in check_hole js fill a.axes a.kind >>= λ u. check_coords js fill a.coords)
check_fill joined fill (of.Set s) = (let js = with_labels s.axes joined in check_variables js fill s.axes s.vars >>= λ u. check_coords js fill s.coords)
check_fill joined fill v = Ok tt

-- ---- align(a, b, .., join="inner", fill_value?)

unfoldable pub check_labelled : Value → Result (Unit {0}) Fault
check_labelled (of.Array a) = Ok tt
check_labelled (of.Set s) = Ok tt
check_labelled v = wrong

unfoldable pub how_named : List ℕ → Result How Fault
how_named t =
    if bytes_eq t (codes "exact") then Ok how.Exact
    else if bytes_eq t (codes "inner") then Ok how.Inner
    else if bytes_eq t (codes "outer") then Ok how.Outer
    else if bytes_eq t (codes "left") then Ok how.Left
    else if bytes_eq t (codes "right") then Ok how.Right
    else unfit

unfoldable pub how_given : Option Value → Result How Fault
how_given None = Ok how.Inner
how_given (Some v) = as_text v >>= λ t. how_named t

unfoldable pub fill_given : Option Value → Result (Option Value) Fault
fill_given None = Ok None
fill_given (Some v) = check_literal v >>= λ u. Ok (Some v)

-- no more of any than an array or a dataset may have
unfoldable pub check_size : Value → Result (Unit {0}) Fault
check_size (of.Array a) = check_array a
check_size (of.Set s) = check_set s
check_size v = Ok tt

abbrev pub keywords : Given → Given
keywords g = record { plain = []; keyed = g.keyed }

-- the values over their joined axes
unfoldable pub aligned_by : How → Option Value → List Value → Result (List Value) Fault
aligned_by j fill vs =
    aligned j (is_some fill) (map axes_of vs) >>= λ joined. all_of (check_fill joined fill) vs >>= λ u.
    (let ws = map (fitted_value joined (fill_cell fill)) vs in all_of check_size ws >>= λ w. Ok ws)

-- As many names as values, of which there are two or more. Then the values, the join and the fill; the joins in the order in which
-- the dimensions appear; the fill where it is needed; the limits.
unfoldable pub align_called : ℕ → Given → Result (List Value) Fault
align_called names g =
    unless (nat_le 2 names && (length g.plain == names)) BadArgument >>= λ u. bound (codes "join" ∷ codes "fill_value" ∷ []) (keywords g) >>= λ options.
    all_of check_labelled g.plain >>= λ v. how_given (option options 0) >>= λ j. fill_given (option options 1) >>= λ fill. aligned_by j fill g.plain

-- ---- name["v"] = array

abbrev pub without_variable : List ℕ → Dataset → Dataset
without_variable name s = without_idle (record s { vars = filter (λ (v : Variable). not (bytes_eq v.name name)) s.vars })

abbrev pub has_coord : List Coord → List ℕ → Bool
has_coord coords name = list_any (λ (c : Coord). bytes_eq c.name name) coords

-- a dimension or a coordinate has this name
abbrev pub is_reserved : List Axis → List Coord → List ℕ → Bool
is_reserved axes coords name = among (axis_names axes) name || has_coord coords name

abbrev pub has_index : List Axis → List ℕ → Bool
has_index axes name = list_any (λ (x : Axis). bytes_eq x.name name && is_some x.labels) axes

-- a data variable has the name of a coordinate or index of an array
abbrev pub meets_variable : DataArray → Variable → Bool
meets_variable a v = has_coord a.coords v.name || has_index a.axes v.name

-- the name is none of a dimension or coordinate of either, and none of the array's is that of another variable
unfoldable pub check_names : Dataset → List ℕ → DataArray → Result (Unit {0}) Fault
check_names rest name a =
    unless (not (is_reserved rest.axes rest.coords name || (is_reserved a.axes a.coords name || list_any (meets_variable a) rest.vars))) DuplicateName

-- in the place of one of its name, or at the end
abbrev pub put_variable : Variable → List Variable → List Variable
put_variable v [] = v ∷ []
put_variable v (w ∷ ws) = if bytes_eq w.name v.name then v ∷ ws else w ∷ put_variable v ws

-- the dataset's coordinates, and those of the array that it hasn't, but none that is named as a dimension
abbrev pub all_coords : List Axis → List Coord → List Coord → List Coord
all_coords axes own new =
    filter (λ (c : Coord). not (among (axis_names axes) c.name)) (map (λ (c : Coord). record c { axes = map (joined_in axes) c.axes }) own ++ filter (λ (c : Coord). not (has_coord own c.name)) new)

-- over joined axes, of which the dataset's are as long as they were, so that its variables stay
abbrev pub with_variable : List Axis → Dataset → List ℕ → DataArray → Dataset
with_variable axes s name a =
    without_idle (record s { axes = axes; coords = all_coords axes s.coords a.coords; vars = put_variable (as_variable name a) s.vars })

-- the array comes over the labels of the dataset without that variable, each of which it has
unfoldable pub variable_assigned : Dataset → List ℕ → DataArray → Result Dataset Fault
variable_assigned s name a =
    unless (not (length name == 0)) BadArgument >>= λ u.
    (let rest = without_variable name s in
    aligned how.Left false (rest.axes ∷ a.axes ∷ []) >>= λ axes. check_names rest name a >>= λ v.
    (let t = with_variable axes s name (fitted axes None a) in check_set t >>= λ w. Ok t))

-- a dataset takes an array alone
unfoldable pub value_assigned : Value → List ℕ → Value → Result Value Fault
value_assigned (of.Set s) name (of.Array a) = variable_assigned s name a >>= λ t. Ok (of.Set t)
value_assigned target name v = wrong
