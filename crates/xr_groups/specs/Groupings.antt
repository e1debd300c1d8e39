-- How a grouping groups the positions of dimensions, or the first fault: the dimension is there, its labels serve, and its size fits
-- (xarray, `groupby`, `resample`, `rolling` and `coarsen` of `DataArray` and `Dataset`).
use Rattle.std.specs.Prelude.{nat_lt, nat_le, ◌==◌, ◌%◌, ◌||◌, ◌&&◌, ℕ, ℤ, Bool, true, false, not, List, [], ◌∷◌, length, map, find, get_or, Option, Some, None, is_some, Result, Ok, Err, codes}
use Rattle.std.specs.Str.{bytes_eq}
use Rattle.std.specs.List.{list_all}
use Rattle.std.specs.Ordering.{int_cmp, nat_cmp}
use Rattle.std.specs.Cmp.Lexicographic.{slice_cmp}
use Rattle.xr_types.specs.Results.{◌>>=◌, unless, all_of}
use Rattle.xr_types.specs.Names.{among, axis_names}
use Rattle.xr_types.specs.declared.attr.Attr.{Attr}
use Rattle.xr_types.specs.declared.axis.Axis.{Axis}
use Rattle.xr_types.specs.declared.axis.Labels.{Labels}
use Rattle.xr_types.specs.declared.axis.LabelList.{LabelList}
use Rattle.xr_types.specs.declared.axis.LabelList.TheVariants.{Numbers, Times, Texts}
use Rattle.xr_types.specs.declared.axis.Calendar.{Calendar}
use Rattle.xr_types.specs.declared.axis.Calendar.TheVariants.{Civil, NoLeap, Days360}
use Rattle.xr_types.specs.declared.axis.TimeCoding.{TimeCoding}
use Rattle.xr_types.specs.declared.fault.Fault.{Fault}
use Rattle.xr_types.specs.declared.fault.Fault.TheVariants.{BadArgument, DuplicateName, LabelKind, NoDimension, NotMultiple, NotTime, NoVariable, WouldPromote, WrongKind}
use Rattle.xr_types.specs.declared.kind.DType.{DType}
use Rattle.xr_types.specs.declared.kind.DType.TheVariants as kinds
use Rattle.xr_types.specs.declared.operation.FoldKind.{FoldKind}
use Rattle.xr_types.specs.declared.operation.FoldKind.TheVariants.{Sum, Prod, Min, Max, First, Last, ArgMin, ArgMax, Count, Any, All}
use Rattle.xr_times.specs.Bins.{bins_of}
use Rattle.xr_times.specs.declared.bin_list.BinList.{BinList}
use Rattle.xr_times.specs.declared.time.Field.{Field}
use Rattle.xr_times.specs.declared.time.Field.TheVariants.{Year, Month, Day, Hour, Minute, Second, DayOfYear, DayOfWeek}
use Rattle.xr_times.specs.declared.time.Freq.{Freq}
use Rattle.xr_times.specs.declared.time.Freq.TheVariants.{Seconds, Months, Years}
use Rattle.xr_defs.specs.Building.{is_integer_kind}
use Rattle.xr_defs.specs.Parts.{is_labelled_as}
use Rattle.xr_defs.specs.Selecting.{axis_called}
use Rattle.xr_defs.specs.Values.{axis_position, no_axis}
use Rattle.xr_defs.specs.WellFormed.{names_of}
use Rattle.xr_defs.specs.declared.grouping.BlockSize.{BlockSize}
use Rattle.xr_defs.specs.declared.grouping.Grouping.{Grouping}
use Rattle.xr_defs.specs.declared.grouping.Grouping.TheVariants.{Dates, Coordinate, Bins, Windows, Blocks}
use Rattle.xr_defs.specs.declared.value.Content.{Content}
use Rattle.xr_defs.specs.declared.value.Content.TheVariants as contents
use Rattle.xr_defs.specs.declared.value.Coord.{Coord}
use Rattle.xr_groups.specs.declared.change.Change.{Change}
use Rattle.xr_groups.specs.Blocks.{block_axis, blocks, windows}
use Rattle.xr_groups.specs.Groups.{bin_lists, distinct, each_key, field_keys, group_lists}

-- ---- axes

unfoldable pub axis_found : List ℕ → List Axis → Result Axis Fault
axis_found d axes = elim (axis_position d axes) [ None ↦ Err (NoDimension d) | Some k ↦ Ok (get_or axes k no_axis) ]

-- the labels of an index of times
pub record TimeIndex : Type 0 where
  pub coding : TimeCoding
  pub times : List ℤ
  pub attrs : List Attr

unfoldable pub times_in : Labels → Result TimeIndex Fault
times_in l = elim l.list [ Numbers kind ns ↦ Err NotTime | Times coding ts ↦ Ok (record { coding = coding; times = ts; attrs = l.attrs }) | Texts ts ↦ Err NotTime ]

unfoldable pub times_along : Axis → Result TimeIndex Fault
times_along x = elim x.labels [ None ↦ Err NotTime | Some l ↦ times_in l ]

abbrev pub labelled_axis : List ℕ → LabelList → ℕ → List Attr → Axis
labelled_axis name list n attrs = record { name = name; size = n; labels = Some (record { list = list; attrs = attrs }) }

-- ---- groups

abbrev pub number_groups : List ℕ → List ℕ → DType → List Attr → List (Option ℤ) → Change
number_groups d name kind attrs keys =
    let ks = distinct int_cmp keys in
    record { dimension = d; lists = group_lists int_cmp keys; axis = labelled_axis name (Numbers kind ks) (length ks) attrs }

abbrev pub time_groups : List ℕ → List ℕ → TimeCoding → List Attr → List (Option ℤ) → Change
time_groups d name coding attrs keys =
    let ks = distinct int_cmp keys in
    record { dimension = d; lists = group_lists int_cmp keys; axis = labelled_axis name (Times coding ks) (length ks) attrs }

abbrev pub text_groups : List ℕ → List ℕ → List Attr → List (Option (List ℕ)) → Change
text_groups d name attrs keys =
    let ks = distinct (slice_cmp nat_cmp) keys in
    record { dimension = d; lists = group_lists (slice_cmp nat_cmp) keys; axis = labelled_axis name (Texts ks) (length ks) attrs }

abbrev pub field_name : Field → List ℕ
field_name Year = codes "year"
field_name Month = codes "month"
field_name Day = codes "day"
field_name Hour = codes "hour"
field_name Minute = codes "minute"
field_name Second = codes "second"
field_name DayOfYear = codes "dayofyear"
field_name DayOfWeek = codes "dayofweek"

abbrev pub is_weekday : Field → Bool
is_weekday Year = false
is_weekday Month = false
is_weekday Day = false
is_weekday Hour = false
is_weekday Minute = false
is_weekday Second = false
is_weekday DayOfYear = false
is_weekday DayOfWeek = true

-- weeks are those of civil dates
abbrev pub has_field : Calendar → Field → Bool
has_field Civil field = true
has_field NoLeap field = not (is_weekday field)
has_field Days360 field = not (is_weekday field)

-- by a field of the dates, of kind int64
unfoldable pub date_change : List ℕ → Field → List Axis → Result Change Fault
date_change d field axes =
    axis_found d axes >>= λ x. times_along x >>= λ t. unless (has_field t.coding.units.calendar field) BadArgument >>= λ u.
    Ok (number_groups d (field_name field) kinds.Int64 [] (field_keys t.coding.units.calendar field t.times))

-- by the labels of an index
unfoldable pub index_groups : List ℕ → Labels → Change
index_groups d l =
    elim l.list [
      | Numbers kind ns ↦ number_groups d d kind l.attrs (each_key ns)
      | Times coding ts ↦ time_groups d d coding l.attrs (each_key ts)
      | Texts ts ↦ text_groups d d l.attrs (each_key ts)
    ]

unfoldable pub index_change : Axis → Result Change Fault
index_change x = elim x.labels [ None ↦ Err (NoVariable x.name) | Some l ↦ Ok (index_groups x.name l) ]

-- by the cells of a coordinate of one dimension
unfoldable pub content_change : List ℕ → Coord → Content → Result Change Fault
content_change d c (contents.Cells a masked) = unless (is_integer_kind a.kind) WrongKind >>= λ u. Ok (number_groups d c.name a.kind c.attrs a.cells)
content_change d c (contents.Text t) = Err WrongKind
content_change d c (contents.Time coding t) = Err WrongKind

unfoldable pub coord_over : Coord → List Axis → Result Change Fault
coord_over c (x ∷ []) = content_change x.name c c.content
coord_over c axes = Err BadArgument

abbrev pub is_called : List ℕ → Coord → Bool
is_called name c = bytes_eq c.name name

unfoldable pub coordinate_change : List ℕ → List Axis → List Coord → Result Change Fault
coordinate_change name axes coords =
    elim (find (is_called name) coords) [
      | Some c ↦ coord_over c c.axes
      | None ↦ elim (find (is_labelled_as name) axes) [ None ↦ Err (NoVariable name) | Some x ↦ index_change x ]
    ]

-- ---- bins

unfoldable pub bins_along : List ℕ → Freq → TimeIndex → Result Change Fault
bins_along d freq t =
    bins_of t.coding.units.calendar freq t.times >>= λ (b : BinList).
    Ok (record { dimension = d; lists = bin_lists (length b.starts) b.bin; axis = labelled_axis d (Times t.coding b.starts) (length b.starts) t.attrs })

-- a bin has a width
abbrev pub is_freq : Freq → Bool
is_freq (Seconds w) = nat_lt 0 w
is_freq Months = true
is_freq Years = true

unfoldable pub bin_change : List ℕ → Freq → List Axis → Result Change Fault
bin_change d freq axes = unless (is_freq freq) BadArgument >>= λ u. axis_found d axes >>= λ x. times_along x >>= λ t. bins_along d freq t

-- ---- windows

-- a window that has its position in the middle is of an odd width
unfoldable pub window_change : List ℕ → ℕ → Bool → List Axis → Result Change Fault
window_change d w center axes =
    axis_found d axes >>= λ x. unless (not (center && (w % 2 == 0))) BadArgument >>= λ u. Ok (record { dimension = d; lists = windows x.size w center; axis = x })

-- ---- blocks

unfoldable pub check_there : List Axis → BlockSize → Result (Unit {0}) Fault
check_there axes b = axis_found b.dimension axes >>= λ x. Ok tt

unfoldable pub check_multiple : Bool → List Axis → BlockSize → Result (Unit {0}) Fault
check_multiple trim axes b = unless (trim || ((axis_called axes b.dimension).size % b.size == 0)) NotMultiple

unfoldable pub check_labels : Option FoldKind → List Axis → BlockSize → Result (Unit {0}) Fault
check_labels how axes b = unless (not (is_some (axis_called axes b.dimension).labels) || is_some how) WouldPromote

-- the labels of a block become their least, their greatest or their sum
abbrev pub is_func : Option FoldKind → Bool
is_func None = true
is_func (Some Min) = true
is_func (Some Max) = true
is_func (Some Sum) = true
is_func (Some Prod) = false
is_func (Some First) = false
is_func (Some Last) = false
is_func (Some ArgMin) = false
is_func (Some ArgMax) = false
is_func (Some Count) = false
is_func (Some Any) = false
is_func (Some All) = false

abbrev pub have_size : List BlockSize → Bool
have_size sizes = list_all (λ (b : BlockSize). nat_lt 0 b.size) sizes

abbrev pub is_sum : Option FoldKind → Bool
is_sum None = false
is_sum (Some Sum) = true
is_sum (Some Prod) = false
is_sum (Some Min) = false
is_sum (Some Max) = false
is_sum (Some First) = false
is_sum (Some Last) = false
is_sum (Some ArgMin) = false
is_sum (Some ArgMax) = false
is_sum (Some Count) = false
is_sum (Some Any) = false
is_sum (Some All) = false

abbrev pub are_numbers : LabelList → Bool
are_numbers (Numbers kind ns) = true
are_numbers (Times coding ts) = false
are_numbers (Texts ts) = false

-- times and texts have no sum
abbrev pub has_sum : Axis → Bool
has_sum x = elim x.labels [ None ↦ true | Some l ↦ are_numbers l.list ]

unfoldable pub check_sums : Option FoldKind → List Axis → BlockSize → Result (Unit {0}) Fault
check_sums how axes b = unless (not (is_sum how) || has_sum (axis_called axes b.dimension)) LabelKind

abbrev pub block_change : Option FoldKind → List Axis → BlockSize → Change
block_change how axes b = let x = axis_called axes b.dimension in record { dimension = b.dimension; lists = blocks x.size b.size; axis = block_axis how b.size x }

unfoldable pub block_changes : List BlockSize → Bool → Option FoldKind → List Axis → Result (List Change) Fault
block_changes sizes trim how axes =
    unless (is_func how && have_size sizes) BadArgument >>= λ t. all_of (check_there axes) sizes >>= λ u. all_of (check_multiple trim axes) sizes >>= λ v. all_of (check_labels how axes) sizes >>= λ w.
    all_of (check_sums how axes) sizes >>= λ x. Ok (map (block_change how axes) sizes)

-- ---- all of them

abbrev pub one_change : Result Change Fault → Result (List Change) Fault
one_change r = r >>= λ c. Ok (c ∷ [])

unfoldable pub changes_of : Grouping → List Axis → List Coord → Result (List Change) Fault
changes_of (Dates d field) axes coords = one_change (date_change d field axes)
changes_of (Coordinate name) axes coords = one_change (coordinate_change name axes coords)
changes_of (Bins d freq) axes coords = one_change (bin_change d freq axes)
-- windows that need no cell would fold none
changes_of (Windows d w center least) axes coords = unless (nat_le 1 least) BadArgument >>= λ u. one_change (window_change d w center axes)
changes_of (Blocks sizes trim how) axes coords = block_changes sizes trim how axes

-- ---- the name of the new axis: no other dimension, coordinate or data variable has it

abbrev pub is_free : List ℕ → List Axis → List Coord → List (List ℕ) → Bool
is_free name axes coords others = not (among (axis_names axes) name || among (names_of coords) name || among others name)

unfoldable pub check_name : List Axis → List Coord → List (List ℕ) → Grouping → Result (Unit {0}) Fault
check_name axes coords others (Dates d field) = unless (bytes_eq (field_name field) d || is_free (field_name field) axes coords others) DuplicateName
check_name axes coords others (Coordinate name) = Ok tt
check_name axes coords others (Bins d freq) = Ok tt
check_name axes coords others (Windows d w center least) = Ok tt
check_name axes coords others (Blocks sizes trim how) = Ok tt

unfoldable pub grouped_changes : Grouping → List Axis → List Coord → List (List ℕ) → Result (List Change) Fault
grouped_changes grouping axes coords others = changes_of grouping axes coords >>= λ cs. check_name axes coords others grouping >>= λ u. Ok cs
