-- Parts of datasets and arrays (xarray user guide, "Data Structures"): a variable or coordinate by its name, an array as a
-- dataset, names and attributes, dimensions in another order, what is dropped.
use Rattle.std.specs.Prelude.{◌&&◌, ◌||◌, ◌==◌, ℕ, Bool, true, false, not, List, [], ◌∷◌, ◌++◌, length, map, filter, find, Option, Some, None, is_some, Result, Ok, Err, get_or, if◌then◌else◌, codes}
use Rattle.std.specs.Str.{bytes_eq}
use Rattle.std.specs.List.{list_any}
use Rattle.xr_types.specs.declared.fault.Fault.{Fault}
use Rattle.xr_types.specs.declared.fault.Fault.TheVariants.{NoVariable, NoDimension, BadArgument, DuplicateName, DoesNotFit, NotLoaded}
use Rattle.xr_types.specs.declared.attr.Attr.{Attr}
use Rattle.xr_types.specs.declared.attr.NcType.TheVariants.{Char, Int}
use Rattle.xr_types.specs.declared.axis.Axis.{Axis}
use Rattle.xr_types.specs.declared.axis.Labels.{Labels}
use Rattle.xr_types.specs.declared.axis.LabelList.{LabelList}
use Rattle.xr_types.specs.declared.axis.LabelList.TheVariants.{Numbers}
use Rattle.xr_defs.specs.declared.value.Content.{Content}
use Rattle.xr_defs.specs.declared.value.Content.TheVariants as contents
use Rattle.xr_defs.specs.declared.value.Coord.{Coord}
use Rattle.xr_types.specs.Results.{◌>>=◌, unless, all_of}
use Rattle.xr_types.specs.Names.{among}
use Rattle.xr_types.specs.Names.{axis_names}
use Rattle.xr_defs.specs.Values.{DataArray, Dataset, Variable, array_of, axis_position, no_axis}
use Rattle.xr_defs.specs.Decoding.{is_kept}
use Rattle.xr_defs.specs.Encoding.{coords_over, holds, value_bytes}
use Rattle.xr_arrays.specs.Nodes.{reordered}
use Rattle.xr_defs.specs.Selecting.{axis_called, check_set}
use Rattle.xr_defs.specs.Meanings.{Value, Values, Absent, Text, Number, Sequence, NoValue, With, Given}
use Rattle.xr_defs.specs.Arguments.{wrong, unfit, only, as_text}

-- ---- x["v"]

abbrev pub axes_called : List Axis → List (List ℕ) → List Axis
axes_called axes names = map (axis_called axes) names

-- a data variable as an array, with the coordinates whose dimensions are all among its own
abbrev pub variable_as_array : Dataset → Variable → DataArray
variable_as_array set v =
    record { name = Some v.name; axes = axes_called set.axes v.dims; kind = v.kind; masked = v.masked; attrs = v.attrs; coords = coords_over v.dims set.coords; cells = v.cells }

-- a coordinate so, itself among them; texts and times have no cells
abbrev pub content_as_array : List Coord → Coord → Content → Result DataArray Fault
content_as_array coords c (contents.Cells a masked) =
    Ok (record { name = Some c.name; axes = c.axes; kind = a.kind; masked = masked; attrs = c.attrs; coords = coords_over (axis_names c.axes) coords; cells = a.cells })
content_as_array coords c content = wrong

abbrev pub coord_as_array : List Coord → Coord → Result DataArray Fault
coord_as_array coords c = content_as_array coords c c.content

-- the labels of an axis so
abbrev pub list_as_array : List Coord → Axis → Labels → LabelList → Result DataArray Fault
list_as_array coords x l (Numbers kind ns) =
    Ok (record { name = Some x.name; axes = x ∷ []; kind = kind; masked = false; attrs = l.attrs; coords = coords_over (x.name ∷ []) coords; cells = map Some ns })
list_as_array coords x l list = wrong

abbrev pub is_labelled_as : List ℕ → Axis → Bool
is_labelled_as name x = bytes_eq x.name name && is_some x.labels

abbrev pub index_as_array : List Coord → Axis → Result DataArray Fault
index_as_array coords x = elim x.labels [ None ↦ Err (NoVariable x.name) | Some l ↦ list_as_array coords x l l.list ]

abbrev pub coordinate_of : List Axis → List Coord → List ℕ → Option (Result DataArray Fault)
coordinate_of axes coords name =
    elim (find (λ (c : Coord). bytes_eq c.name name) coords) [
      | Some c ↦ Some (coord_as_array coords c)
      | None ↦ elim (find (is_labelled_as name) axes) [ None ↦ None | Some x ↦ Some (index_as_array coords x) ]
    ]

-- what isn't loaded has a fault of its own
abbrev pub not_there : Dataset → List ℕ → Result DataArray Fault
not_there set name = Err (if among set.skipped name then NotLoaded name else NoVariable name)

unfoldable pub picked_of_set : Dataset → List ℕ → Result DataArray Fault
picked_of_set set name =
    elim (find (λ (v : Variable). bytes_eq v.name name) set.vars) [
      | Some v ↦ Ok (variable_as_array set v)
      | None ↦ elim (coordinate_of set.axes set.coords name) [ None ↦ not_there set name | Some r ↦ r ]
    ]

unfoldable pub picked_of_array : DataArray → List ℕ → Result DataArray Fault
picked_of_array a name = elim (coordinate_of a.axes a.coords name) [ None ↦ Err (NoVariable name) | Some r ↦ r ]

-- ---- rename(name), to_dataset(name): an array's name

-- a new name isn't empty
unfoldable pub new_name : Value → Result (List ℕ) Fault
new_name v = as_text v >>= λ t. unless (not (length t == 0)) BadArgument >>= λ u. Ok t

unfoldable pub renamed : DataArray → Given → Result DataArray Fault
renamed a g = only (codes "name") g >>= λ v. new_name v >>= λ t. Ok (record a { name = Some t })

-- no argument, or one that is `None`, keeps the array's own name
abbrev pub own_name : DataArray → Result (List ℕ) Fault
own_name a = elim a.name [ None ↦ unfit | Some t ↦ Ok t ]

unfoldable pub name_given : DataArray → Value → Result (List ℕ) Fault
name_given a Absent = own_name a
name_given a v = new_name v

unfoldable pub set_name : DataArray → Given → Result (List ℕ) Fault
set_name a g = if length g.plain == 0 && length g.keyed == 0 then own_name a else (only (codes "name") g >>= λ v. name_given a v)

abbrev pub as_variable : List ℕ → DataArray → Variable
as_variable name a = record { name = name; dims = axis_names a.axes; kind = a.kind; masked = a.masked; attrs = a.attrs; cells = a.cells }

abbrev pub set_of_array : List ℕ → DataArray → Dataset
set_of_array name a = record { axes = a.axes; coords = a.coords; vars = as_variable name a ∷ []; attrs = []; skipped = [] }

abbrev pub is_taken : DataArray → List ℕ → Bool
is_taken a name = among (axis_names a.axes) name || list_any (λ (c : Coord). bytes_eq c.name name) a.coords

-- its name is none of its dimensions and coordinates, of which there are no more than a dataset may have
unfoldable pub as_set : List ℕ → DataArray → Result Dataset Fault
as_set name a = unless (not (is_taken a name)) DuplicateName >>= λ u. check_set (set_of_array name a) >>= λ v. Ok (set_of_array name a)

unfoldable pub to_dataset : DataArray → Given → Result Dataset Fault
to_dataset a g = set_name a g >>= λ name. as_set name a

-- ---- assign_attrs(name=value): a text, or a whole number of type int

-- in the place of one of its name, or at the end
abbrev pub with_attr : List Attr → Attr → List Attr
with_attr [] b = b ∷ []
with_attr (a ∷ rest) b = if bytes_eq a.name b.name then b ∷ rest else (a ∷ with_attr rest b)

unfoldable pub check_attr : List ℕ × Value → Result (Unit {0}) Fault
check_attr (name, Text t) = Ok tt
check_attr (name, Number n) = Ok tt
check_attr kv = wrong

unfoldable pub attr_given : List ℕ × Value → Result Attr Fault
attr_given (name, Text t) = Ok (record { name = name; kind = Char; raw = t })
attr_given (name, Number n) = unless (holds Int n) DoesNotFit >>= λ u. Ok (record { name = name; kind = Int; raw = value_bytes Int n })
attr_given kv = wrong

unfoldable pub each_attr : List Attr → List (List ℕ × Value) → Result (List Attr) Fault
each_attr attrs [] = Ok attrs
each_attr attrs (kv ∷ kvs) = attr_given kv >>= λ a. each_attr (with_attr attrs a) kvs

unfoldable pub attrs_assigned : List Attr → Given → Result (List Attr) Fault
attrs_assigned attrs g = unless (length g.plain == 0) BadArgument >>= λ u. all_of check_attr g.keyed >>= λ v. each_attr attrs g.keyed

unfoldable pub array_with_attrs : Given → DataArray → Result DataArray Fault
array_with_attrs g a = attrs_assigned a.attrs g >>= λ attrs. Ok (record a { attrs = attrs })

unfoldable pub set_with_attrs : Given → Dataset → Result Dataset Fault
set_with_attrs g s = attrs_assigned s.attrs g >>= λ attrs. Ok (record s { attrs = attrs })

-- ---- transpose(d1, d2): every dimension once, or none for the reversed order

unfoldable pub as_texts : List Value → Result (List (List ℕ)) Fault
as_texts [] = Ok []
as_texts (v ∷ vs) = as_text v >>= λ t. as_texts vs >>= λ ts. Ok (t ∷ ts)

unfoldable pub dimension_at : List Axis → List ℕ → Result ℕ Fault
dimension_at axes name = elim (axis_position name axes) [ None ↦ Err (NoDimension name) | Some k ↦ Ok k ]

unfoldable pub dimensions_at : List Axis → List (List ℕ) → Result (List ℕ) Fault
dimensions_at axes [] = Ok []
dimensions_at axes (name ∷ names) = dimension_at axes name >>= λ k. dimensions_at axes names >>= λ ks. Ok (k ∷ ks)

-- each number below the rank once
abbrev pub is_once : List ℕ → Bool
is_once [] = true
is_once (k ∷ ks) = not (list_any (λ j. j == k) ks) && is_once ks

abbrev pub is_order : ℕ → List ℕ → Bool
is_order rank order = (length order == rank) && is_once order

abbrev pub in_order : DataArray → List ℕ → DataArray
in_order a order = record a { axes = map (λ k. get_or a.axes k no_axis) order; cells = (reordered (array_of a) order).cells }

-- numbers of the axes from the last to the first
abbrev pub backwards : List Axis → List ℕ
backwards [] = []
backwards (x ∷ xs) = length xs ∷ backwards xs

unfoldable pub order_given : List Axis → List (List ℕ) → Result (List ℕ) Fault
order_given axes [] = Ok (backwards axes)
order_given axes names = dimensions_at axes names >>= λ order. unless (is_order (length axes) order) BadArgument >>= λ u. Ok order

unfoldable pub transposed : DataArray → Given → Result DataArray Fault
transposed a g = unless (length g.keyed == 0) BadArgument >>= λ u. as_texts g.plain >>= λ names. order_given a.axes names >>= λ order. Ok (in_order a order)

-- ---- drop_vars(name or list): data variables, coordinates, indexes

unfoldable pub texts_in : Values → Result (List (List ℕ)) Fault
texts_in NoValue = Ok []
texts_in (With vs v) = texts_in vs >>= λ ts. as_text v >>= λ t. Ok (ts ++ t ∷ [])

unfoldable pub as_names : Value → Result (List (List ℕ)) Fault
as_names (Text t) = Ok (t ∷ [])
as_names (Sequence vs) = texts_in vs
as_names v = wrong

unfoldable pub names_given : Given → Result (List (List ℕ)) Fault
names_given g = unless (length g.keyed == 0 && length g.plain == 1) BadArgument >>= λ u. as_names (get_or g.plain 0 Absent)

abbrev pub unlabelled : List (List ℕ) → Axis → Axis
unlabelled names x = if among names x.name then record x { labels = None } else x

abbrev pub coords_left : List (List ℕ) → List Axis → List Coord → List Coord
coords_left names axes coords = map (λ (c : Coord). record c { axes = map (unlabelled names) c.axes }) (filter (λ (c : Coord). not (among names c.name)) coords)

abbrev pub has_coordinate : List Axis → List Coord → List ℕ → Bool
has_coordinate axes coords name = list_any (λ (c : Coord). bytes_eq c.name name) coords || list_any (is_labelled_as name) axes

unfoldable pub dropped_of_array : DataArray → Given → Result DataArray Fault
dropped_of_array a g =
    names_given g >>= λ names. all_of (λ n. unless (has_coordinate a.axes a.coords n) (NoVariable n)) names >>= λ u.
    Ok (record a { axes = map (unlabelled names) a.axes; coords = coords_left names a.axes a.coords })

-- a bare axis that no variable or coordinate has is gone
abbrev pub without_idle : Dataset → Dataset
without_idle set = record set { axes = filter (is_kept set.coords set.vars) set.axes }

abbrev pub left_of_set : Dataset → List (List ℕ) → Dataset
left_of_set set names =
    without_idle (record set {
      axes = map (unlabelled names) set.axes;
      coords = coords_left names set.axes set.coords;
      vars = filter (λ (v : Variable). not (among names v.name)) set.vars;
    })

abbrev pub has_name : Dataset → List ℕ → Bool
has_name set name = list_any (λ (v : Variable). bytes_eq v.name name) set.vars || has_coordinate set.axes set.coords name

unfoldable pub dropped_of_set : Dataset → Given → Result Dataset Fault
dropped_of_set set g = names_given g >>= λ names. all_of (λ n. unless (has_name set n) (NoVariable n)) names >>= λ u. Ok (left_of_set set names)
