-- concat(LIST, dim, join="outer", fill_value?): values one after the other along a dimension that all have, or that none has (xarray
-- user guide, "Combining data", "Concatenate"; `xarray.concat` with `data_vars="minimal"` and `compat="equals"`; NumPy, `concatenate`
-- and `stack`).
use Rattle.std.specs.Prelude.{◌==◌, ◌&&◌, ◌||◌, ℕ, Bool, false, not, codes, List, [], ◌∷◌, length, map, filter, flat_map, find, get_or, sum, Option, Some, None, is_some, Result, Ok, Err, if◌then◌else◌}
use Rattle.std.specs.Str.{bytes_eq}
use Rattle.std.specs.List.{list_all, list_any}
use Rattle.std.specs.Cmp.Lexicographic.{pointwise}
use Rattle.xr_types.specs.Names.{among, axis_names}
use Rattle.xr_types.specs.Results.{◌>>=◌, unless, all_of}
use Rattle.xr_types.specs.declared.axis.Axis.{Axis}
use Rattle.xr_types.specs.declared.axis.Labels.{Labels}
use Rattle.xr_types.specs.declared.axis.LabelList.{LabelList}
use Rattle.xr_types.specs.declared.axis.LabelList.TheVariants as lists
use Rattle.xr_types.specs.declared.fault.Fault.{Fault}
use Rattle.xr_types.specs.declared.fault.Fault.TheVariants.{Conflict, DuplicateName, LabelKind, NoDimension, NoVariable}
use Rattle.xr_types.specs.declared.kind.DType.{DType}
use Rattle.xr_types.specs.Kinds.{kind_name}
use Rattle.xr_types.specs.declared.operation.How.{How}
use Rattle.xr_arrays.specs.Arrays.{Array}
use Rattle.xr_arrays.specs.Nodes.{concatenated, widened}
use Rattle.xr_defs.specs.Building.{argument, bound, is_integer_kind, option, required}
use Rattle.xr_defs.specs.Carrying.{is_agreed, joined_attrs, joined_coord, shared_name}
use Rattle.xr_defs.specs.Meanings as of
use Rattle.xr_defs.specs.Meanings.{Given, Value}
use Rattle.xr_defs.specs.Parts.{axes_called, new_name, variable_as_array, without_idle}
use Rattle.xr_defs.specs.Selecting.{axis_called, check_set}
use Rattle.xr_defs.specs.Values.{Dataset, Variable, is_scalar}
use Rattle.xr_defs.specs.WellFormed.{variable_names}
use Rattle.xr_defs.specs.declared.value.Content.{Content}
use Rattle.xr_defs.specs.declared.value.Content.TheVariants as contents
use Rattle.xr_defs.specs.declared.value.Coord.{Coord}
use Rattle.xr_operations.specs.Alignment.{aligned, all_names, are_kin, indexes, names_once, number_kind, relisted}
use Rattle.xr_operations.specs.Reductions.{place_in}
use Rattle.xr_relations.specs.Aligning.{check_size, fill_cell, fill_given, fitted_set}
use Rattle.xr_combination.specs.Arguments.{alike_given, how_given}
use Rattle.xr_combination.specs.Pieces.{Piece, all_attrs, all_labels, all_same, all_skipped, as_dataset, as_kind, chained_index, check_fill, common_kind_of, coords_called, each_of, first_piece, first_set, have_dims_of_first, in_first_order, is_array, is_some_masked, name_list, piece_variable, promoted_all, variable_piece, variables_called}

-- ---- the values

-- arrays have one variable each, whatever their names
abbrev pub unnamed : Value → Dataset
unnamed (of.Array a) = as_dataset (of.Array (record a { name = None }))
unnamed v = as_dataset v

-- the name of a data variable, or of an array
abbrev pub value_names : Value → List (List ℕ)
value_names (of.Array a) = name_list a.name
value_names v = variable_names (as_dataset v).vars

abbrev pub set_names : Dataset → List (List ℕ)
set_names s = variable_names s.vars

-- ---- the same data variables in all

abbrev pub is_lacked : List Dataset → List ℕ → Bool
is_lacked ss name = list_any (λ s. not (among (set_names s) name)) ss

-- the first name, in the order of the datasets, that another lacks
unfoldable pub check_variables : List Dataset → Result (Unit {0}) Fault
check_variables ss = elim (find (is_lacked ss) (flat_map set_names ss)) [ None ↦ Ok tt | Some name ↦ Err (NoVariable name) ]

-- ---- the dimension

abbrev pub has_dimension : List ℕ → Dataset → Bool
has_dimension dim s = among (axis_names s.axes) dim

abbrev pub is_along_of : List ℕ → Coord → Bool
is_along_of dim c = bytes_eq c.name dim && not (is_scalar c)

-- a data variable, or a coordinate over dimensions, has its name
abbrev pub has_name : List ℕ → Value → Bool
has_name dim v = among (value_names v) dim || list_any (is_along_of dim) (as_dataset v).coords

-- one that all have, or a new one
unfoldable pub check_dimension : List ℕ → List Value → List Dataset → Result (Unit {0}) Fault
check_dimension dim vs ss =
    unless (list_all (has_dimension dim) ss || not (list_any (has_dimension dim) ss)) (NoDimension dim) >>= λ u.
    unless (not (list_any (has_name dim) vs)) DuplicateName

-- ---- the axes

abbrev pub other_axes : List ℕ → Dataset → List Axis
other_axes dim s = filter (λ (x : Axis). not (bytes_eq x.name dim)) s.axes

-- the index of a dimension that all have: labels one after the other, or none in all
unfoldable pub index_along : ℕ → List Labels → Result (Option Labels) Fault
index_along count [] = Ok None
index_along count (l ∷ ls) = unless (length (l ∷ ls) == count) LabelKind >>= λ u. chained_index l ls >>= λ m. Ok (Some m)

unfoldable pub chained_axis : List ℕ → List Axis → Result Axis Fault
chained_axis dim xs =
    index_along (length xs) (indexes xs) >>= λ l. Ok (record { name = dim; size = sum (map (λ (x : Axis). x.size) xs); labels = l })

abbrev pub axis_along : List ℕ → List Dataset → Result Axis Fault
axis_along dim ss = chained_axis dim (map (λ (s : Dataset). axis_called s.axes dim) ss)

-- the label that a scalar coordinate is
abbrev pub number_list : DType → Array → Option LabelList
number_list t a = elim (get_or a.cells 0 None) [ None ↦ None | Some n ↦ if is_integer_kind t then Some (lists.Numbers t (n ∷ [])) else None ]

abbrev pub scalar_list : Content → Option LabelList
scalar_list (contents.Cells a masked) = number_list a.kind a
scalar_list (contents.Text t) = Some (lists.Texts (t ∷ []))
scalar_list (contents.Time coding t) = Some (lists.Times coding (t ∷ []))

abbrev pub scalar_index : Coord → List Labels
scalar_index c = elim (scalar_list c.content) [ None ↦ [] | Some l ↦ record { list = l; attrs = c.attrs } ∷ [] ]

-- exactly one kind
abbrev pub is_same_sort : Labels → Labels → Bool
is_same_sort l m = are_kin l.list m.list && bytes_eq (kind_name (number_kind l.list)) (kind_name (number_kind m.list))

abbrev pub index_of_scalars : ℕ → List Labels → Option Labels
index_of_scalars count [] = None
index_of_scalars count (l ∷ ls) =
    if (length (l ∷ ls) == count) && list_all (is_same_sort l) ls then Some (record { list = relisted (number_kind l.list) l.list (all_labels (l ∷ ls)); attrs = l.attrs }) else None

-- of so many values, of which these have a scalar coordinate of a new dimension's name: its labels, where each has one
abbrev pub axis_of_scalars : List ℕ → ℕ → List Coord → Axis
axis_of_scalars dim count cs = record { name = dim; size = count; labels = index_of_scalars count (flat_map scalar_index cs) }

abbrev pub new_axis : List ℕ → List Dataset → Axis
new_axis dim ss = axis_of_scalars dim (length ss) (coords_called dim ss)

abbrev pub is_new : List ℕ → List Dataset → Bool
is_new dim ss = not (has_dimension dim (first_set ss))

unfoldable pub joining_axis : List ℕ → List Dataset → Result Axis Fault
joining_axis dim ss = if is_new dim ss then Ok (new_axis dim ss) else axis_along dim ss

-- a new dimension stands first
abbrev pub result_names : List ℕ → List Dataset → List (List ℕ)
result_names dim ss =
    let names = names_once (all_names (map (λ (s : Dataset). s.axes) ss)) in
    if is_new dim ss then dim ∷ names else names

-- ---- data variables

-- the pieces of a name, of each dataset
abbrev pub pieces_called : List Dataset → List ℕ → List Piece
pieces_called ss name = map variable_piece (variables_called name ss)

unfoldable pub check_kinds : List Dataset → List ℕ → Result (Unit {0}) Fault
check_kinds ss name =
    unless (have_dims_of_first (pieces_called ss name)) Conflict >>= λ u. common_kind_of (pieces_called ss name) >>= λ t. Ok tt

-- without the dimension, though it isn't new, it is the same in all
abbrev pub is_constant : List ℕ → List Dataset → Piece → Bool
is_constant dim ss p = not (is_new dim ss || among p.dims dim)

unfoldable pub check_constant : List ℕ → List Dataset → List ℕ → Result (Unit {0}) Fault
check_constant dim ss name =
    (let ps = pieces_called ss name in
    if is_constant dim ss (first_piece ps) then unless (all_same (in_first_order ps)) Conflict else Ok tt)

abbrev pub in_kind : DType → List Piece → List Array
in_kind t ps = map (as_kind t) (in_first_order ps)

abbrev pub first_array : List Array → Array
first_array [] = (first_piece []).array
first_array (a ∷ rest) = a

-- along a new dimension, which is the first one; end to end along one that is there; or one of equal ones
abbrev pub piece_concatenated : Bool → List ℕ → DType → List Piece → Piece
piece_concatenated new dim t ps =
    let p = first_piece ps in
    let arrays = in_kind t ps in
    if new then record { dims = dim ∷ p.dims; array = concatenated (map (λ a. widened a 0 1) arrays) 0; masked = is_some_masked ps; attrs = all_attrs ps }
    else if among p.dims dim then record { dims = p.dims; array = concatenated arrays (place_in p.dims dim); masked = is_some_masked ps; attrs = all_attrs ps }
    else record { dims = p.dims; array = first_array arrays; masked = is_some_masked ps; attrs = all_attrs ps }

unfoldable pub variable_concatenated : List ℕ → List Dataset → List ℕ → Result Variable Fault
variable_concatenated dim ss name =
    common_kind_of (pieces_called ss name) >>= λ t. Ok (piece_variable name (piece_concatenated (is_new dim ss) dim t (pieces_called ss name)))

-- ---- coordinates

abbrev pub has_all : List Dataset → List Coord → Bool
has_all ss cs = length cs == length ss

abbrev pub content_array : Content → Option (Array × Bool)
content_array (contents.Cells a masked) = Some (a, masked)
content_array (contents.Text t) = None
content_array (contents.Time coding t) = None

abbrev pub coord_pieces : Coord → List Piece
coord_pieces c = elim (content_array c.content) [ None ↦ [] | Some m ↦ record { dims = axis_names c.axes; array = m.0; masked = m.1; attrs = c.attrs } ∷ [] ]

abbrev pub have_dims_in_order : Coord → Coord → Bool
have_dims_in_order c d = pointwise bytes_eq (axis_names c.axes) (axis_names d.axes)

-- over the axes of the result
abbrev pub piece_coord : List Axis → List ℕ → Piece → Coord
piece_coord axes name p = record { name = name; axes = axes_called axes p.dims; attrs = p.attrs; content = contents.Cells p.array p.masked }

-- where all have it over the same dimensions, in kinds that become one
abbrev pub coord_concatenated : List ℕ → List Axis → Coord → List Coord → List Coord
coord_concatenated dim axes c cs =
    let ps = flat_map coord_pieces cs in
    if list_all (have_dims_in_order c) cs then
    elim (promoted_all (map (λ (p : Piece). p.array.kind) ps)) [ None ↦ [] | Some t ↦ piece_coord axes c.name (piece_concatenated false dim t ps) ∷ [] ]
    else []

-- the first of equal ones
abbrev pub coord_kept : Coord → List Coord → List Coord
coord_kept c cs = if is_agreed cs c then joined_coord cs c ∷ [] else []

-- of all values that have a name the coordinate that stands for them, if there is one; none has the name of the dimension
abbrev pub coord_of_all : List ℕ → List Axis → List Dataset → Coord → List Coord
coord_of_all dim axes ss c =
    let cs = coords_called c.name ss in
    if bytes_eq c.name dim || not (has_all ss cs) then []
    else if among (axis_names c.axes) dim then coord_concatenated dim axes c cs
    else coord_kept c cs

-- ---- concat

-- datasets over joined axes
unfoldable pub put_together : List ℕ → List Axis → List Dataset → Result Dataset Fault
put_together dim axes ss =
    each_of (variable_concatenated dim ss) (set_names (first_set ss)) >>= λ vars.
    Ok (without_idle (record {
      axes = axes_called axes (result_names dim ss);
      coords = flat_map (coord_of_all dim axes ss) (first_set ss).coords;
      vars = vars;
      attrs = joined_attrs (map (λ (s : Dataset). s.attrs) ss);
      skipped = all_skipped ss;
    }))

abbrev pub first_variable : List Variable → Variable
first_variable [] = piece_variable [] (first_piece [])
first_variable (v ∷ vs) = v

abbrev pub array_name : Value → Option (List ℕ)
array_name (of.Array a) = a.name
array_name v = None

-- an array of arrays, which has the name that all have, and a dataset of datasets
abbrev pub as_given : List Value → Dataset → Value
as_given vs s =
    if list_all is_array vs then of.Array (record (variable_as_array s (first_variable s.vars)) { name = shared_name (map array_name vs) }) else of.Set s

-- data variables, the dimension, the joins of the other axes, the labels along it; then dimensions and kinds of each variable; the fill
-- where it is needed, and the limits of each value over the joined axes, before a cell is computed; the cells of variables without the
-- dimension; the limits of the result
unfoldable pub concat_of : List ℕ → How → Option Value → List Value → Result Value Fault
concat_of dim j fill vs =
    (let ss = map unnamed vs in
    check_variables ss >>= λ u. check_dimension dim vs ss >>= λ v.
    aligned j (is_some fill) (map (other_axes dim) ss) >>= λ joined. joining_axis dim ss >>= λ x.
    (let ts = map (fitted_set joined (fill_cell fill)) ss in
    all_of (check_kinds ts) (set_names (first_set ts)) >>= λ w. all_of (check_fill joined fill) ss >>= λ z. all_of check_set ts >>= λ m.
    all_of (check_constant dim ts) (set_names (first_set ts)) >>= λ y. put_together dim (x ∷ joined) ts >>= λ t.
    (let r = as_given vs t in check_size r >>= λ q. Ok r)))

-- the list has a name that no keyword has: it stands in its place alone
unfoldable pub concat_called : Given → Result Value Fault
concat_called g =
    bound (codes "list of values" ∷ codes "dim" ∷ codes "join" ∷ codes "fill_value" ∷ []) g >>= λ args.
    required (argument args 0) >>= λ l. required (argument args 1) >>= λ d.
    alike_given l >>= λ vs. new_name d >>= λ dim. how_given (option args 2) >>= λ j. fill_given (option args 3) >>= λ fill. concat_of dim j fill vs
