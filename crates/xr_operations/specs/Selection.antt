-- Selection by label (xarray user guide, "Indexing and selecting data", `sel`): selection by position, at the positions that the
-- labels have. Of an axis without labels the positions themselves are given.
use Rattle.std.specs.Prelude.{◌==◌, ◌+◌, ◌&&◌, ◌||◌, ℕ, ℤ, pos, negsuc, Bool, true, false, not, codes, List, [], ◌∷◌, ◌++◌, length, filter, get_or, nat_lt, Option, Some, None, is_some, is_none, Result, Ok, if◌then◌else◌}
use Rattle.std.specs.List.{list_any, list_all}
use Rattle.std.specs.Str.{bytes_eq}
use Rattle.xr_types.specs.Results.{◌>>=◌, unless, all_of}
use Rattle.xr_types.specs.declared.axis.Axis.{Axis}
use Rattle.xr_types.specs.declared.axis.Label.{Label}
use Rattle.xr_types.specs.declared.axis.Label.TheVariants as label
use Rattle.xr_types.specs.declared.axis.LabelList.{LabelList}
use Rattle.xr_types.specs.declared.axis.LabelList.TheVariants as lists
use Rattle.xr_types.specs.declared.fault.Fault.{Fault}
use Rattle.xr_types.specs.declared.fault.Fault.TheVariants.{WrongKind, BadArgument, LabelKind, NotUnique, NotMonotonic}
use Rattle.xr_types.specs.declared.operation.Near.{Near}
use Rattle.xr_types.specs.declared.operation.Near.TheVariants.{Pad, Backfill, Nearest}
use Rattle.xr_arrays.specs.Labels.{direction_of, find_near_of, find_of, hits, is_kin, is_nearest, labels_of, repeats, slice_of, suits}
use Rattle.xr_types.specs.declared.axis.Calendar.{Calendar}
use Rattle.xr_times.specs.Times.{date_period}
use Rattle.xr_arrays.specs.declared.search.Direction.{Direction}
use Rattle.xr_arrays.specs.declared.search.Direction.TheVariants.{Ascending, Descending, Neither}
use Rattle.xr_times.specs.declared.time.Period.{Period}
use Rattle.xr_defs.specs.Arguments.{wrong, unfit, as_text, check_dimension}
use Rattle.xr_defs.specs.Building.{all_values, given_value, keyword}
use Rattle.xr_defs.specs.Meanings.{Value, Values, Number, Text, Sequence, Slice, NoValue, With, Given}
use Rattle.xr_defs.specs.Selecting.{Selector, as_number, as_selector, axis_called, check_selector, choice_of}
use Rattle.xr_operations.specs.Indexing.{isel_array, isel_set}
use Rattle.xr_defs.specs.Values.{DataArray, Dataset, axis_position}
use Rattle.xr_defs.specs.declared.slice.Part.{Part}
use Rattle.xr_defs.specs.declared.slice.Part.TheVariants as part

-- ---- method and tolerance

-- how a label that isn't there is found, and how far it may be
pub record Search : Type 0 where
  pub method : Option Near
  pub tolerance : Option ℕ

abbrev pub method_named : List ℕ → Option Near
method_named t =
    if bytes_eq t (codes "pad") || bytes_eq t (codes "ffill") then Some Pad
    else (if bytes_eq t (codes "backfill") || bytes_eq t (codes "bfill") then Some Backfill
    else (if bytes_eq t (codes "nearest") then Some Nearest else None))

unfoldable pub as_method : Option Value → Result (Option Near) Fault
as_method None = Ok None
as_method (Some v) = as_text v >>= λ t. elim (method_named t) [ None ↦ unfit | Some m ↦ Ok (Some m) ]

abbrev pub as_distance : ℤ → Result ℕ Fault
as_distance (pos n) = Ok n
as_distance (negsuc n) = unfit

-- a whole number from 0 up, beside a method
unfoldable pub as_tolerance : Option Near → Option Value → Result (Option ℕ) Fault
as_tolerance method None = Ok None
as_tolerance method (Some v) = as_number v >>= λ n. as_distance n >>= λ far. unless (is_some method) BadArgument >>= λ u. Ok (Some far)

unfoldable pub search_given : List (List ℕ × Value) → Result Search Fault
search_given kvs =
    as_method (given_value (keyword (codes "method") kvs)) >>= λ method.
    as_tolerance method (given_value (keyword (codes "tolerance") kvs)) >>= λ tolerance. Ok (record { method = method; tolerance = tolerance })

-- the other keywords name dimensions
abbrev pub is_option : List ℕ → Bool
is_option name = bytes_eq name (codes "method") || bytes_eq name (codes "tolerance")

abbrev pub names_dimension : List ℕ × Value → Bool
names_dimension kv = not (is_option kv.0)

-- ---- what a dimension is given: a label, a list of labels, or a slice of labels; positions, if it is bare

abbrev pub is_label : Value → Bool
is_label (Number n) = true
is_label (Text t) = true
is_label v = false

abbrev pub are_labels : Value → Bool
are_labels (Sequence vs) = all_values is_label vs
are_labels (Slice start stop step) = true
are_labels v = is_label v

abbrev pub is_bare : List Axis → List ℕ → Bool
is_bare axes name = is_some (axis_position name axes) && is_none (axis_called axes name).labels

unfoldable pub check_kind : List Axis → List ℕ × Value → Result (Unit {0}) Fault
check_kind axes kv = if is_bare axes kv.0 then check_selector kv else unless (are_labels kv.1) WrongKind

-- ---- a label among those of an axis. A time is the text of a full date and time.

unfoldable pub as_time : Calendar → List ℕ → Result Label Fault
as_time c t = if length t == 19 then elim (date_period c t) [ None ↦ unfit | Some p ↦ Ok (label.Time p.first) ] else unfit

unfoldable pub as_text_label : LabelList → List ℕ → Result Label Fault
as_text_label (lists.Times coding ts) t = as_time coding.units.calendar t
as_text_label (lists.Numbers kind ns) t = Ok (label.Text t)
as_text_label (lists.Texts ts) t = Ok (label.Text t)

unfoldable pub as_label : LabelList → Value → Result Label Fault
as_label list (Number n) = Ok (label.Int n)
as_label list (Text t) = as_text_label list t
as_label list v = wrong

unfoldable pub as_labels : LabelList → Values → Result (List Label) Fault
as_labels list NoValue = Ok []
as_labels list (With vs v) = as_labels list vs >>= λ ls. as_label list v >>= λ l. Ok (ls ++ l ∷ [])

-- ---- the positions of labels

unfoldable pub found : Search → LabelList → Label → Result ℕ Fault
found by list l = elim by.method [ None ↦ find_of list l | Some m ↦ find_near_of list l m by.tolerance ]

abbrev pub stands_twice : LabelList → Label → Bool
stands_twice list l = nat_lt 1 (length (hits (labels_of list) l))

abbrev pub are_texts : LabelList → Bool
are_texts (lists.Texts ts) = true
are_texts (lists.Numbers kind ns) = false
are_texts (lists.Times coding ts) = false

-- texts have no distance
abbrev pub can_search : LabelList → Near → Option ℕ → Bool
can_search list m tolerance = not (are_texts list && (is_nearest m || is_some tolerance))

-- before it is looked for: labels that differ, in a direction that the method takes
unfoldable pub check_search : LabelList → Near → Option ℕ → Result (Unit {0}) Fault
check_search list m tolerance =
    unless (can_search list m tolerance) LabelKind >>= λ u. unless (not (repeats (labels_of list))) NotUnique >>= λ v.
    unless (suits m (direction_of (labels_of list))) NotMonotonic

-- of all labels of a list, first one of another kind, then one that stands twice; only then each is looked for
unfoldable pub check_list : Search → LabelList → List Label → Result (Unit {0}) Fault
check_list by list ls =
    unless (list_all (is_kin list) ls) LabelKind >>= λ u.
    elim by.method [ None ↦ unless (not (list_any (stands_twice list) ls)) NotUnique | Some m ↦ check_search list m by.tolerance ]

unfoldable pub each_found : Search → LabelList → List Label → Result (List ℕ) Fault
each_found by list [] = Ok []
each_found by list (l ∷ ls) = found by list l >>= λ p. each_found by list ls >>= λ ps. Ok (p ∷ ps)

-- ---- the ends of a slice. For times an end is a year, a month, a day or a second, which the slice holds whole.

abbrev pub is_falling : Direction → Bool
is_falling Descending = true
is_falling Ascending = false
is_falling Neither = false

abbrev pub second_of : Bool → Period → ℤ
second_of last p = if last then p.last else p.first

unfoldable pub as_text_end : LabelList → Bool → List ℕ → Result Label Fault
as_text_end (lists.Times coding ts) last t = elim (date_period coding.units.calendar t) [ None ↦ unfit | Some p ↦ Ok (label.Time (second_of last p)) ]
as_text_end (lists.Numbers kind ns) last t = Ok (label.Text t)
as_text_end (lists.Texts ts) last t = Ok (label.Text t)

unfoldable pub as_end : LabelList → Bool → Part → Result (Option Label) Fault
as_end list last part.Open = Ok None
as_end list last (part.At n) = Ok (Some (label.Int n))
as_end list last (part.Label t) = as_text_end list last t >>= λ l. Ok (Some l)

abbrev pub falls : LabelList → Bool
falls list = is_falling (direction_of (labels_of list))

unfoldable pub between_ends : LabelList → Part → Part → Result (List ℕ) Fault
between_ends list start stop =
    as_end list (falls list) start >>= λ from. as_end list (not (falls list)) stop >>= λ to. slice_of list from to

-- ---- positions as they are given to `isel`

abbrev pub listed : List ℕ → Values → Values
listed [] vs = vs
listed (p ∷ ps) vs = listed ps (With vs (Number (pos p)))

-- positions in a row, as a slice of positions
abbrev pub in_row : List ℕ → Value
in_row ps = Slice (part.At (pos (get_or ps 0 0))) (part.At (pos (get_or ps 0 0 + length ps))) None

unfoldable pub label_located : Search → LabelList → Value → Result Value Fault
label_located by list v = as_label list v >>= λ l. found by list l >>= λ p. Ok (Number (pos p))

unfoldable pub list_located : Search → LabelList → Values → Result Value Fault
list_located by list vs = as_labels list vs >>= λ ls. check_list by list ls >>= λ u. each_found by list ls >>= λ ps. Ok (Sequence (listed ps NoValue))

-- a slice has neither a step nor a method
unfoldable pub slice_located : Search → LabelList → Part → Part → Option ℤ → Result Value Fault
slice_located by list start stop step =
    unless (is_none step && is_none by.method) BadArgument >>= λ u. between_ends list start stop >>= λ ps. Ok (in_row ps)

unfoldable pub located : Search → LabelList → Value → Result Value Fault
located by list (Sequence vs) = list_located by list vs
located by list (Slice start stop step) = slice_located by list start stop step
located by list v = label_located by list v

-- positions that are there
unfoldable pub check_positions : ℕ → Selector → Result (Unit {0}) Fault
check_positions n s = choice_of n s >>= λ c. Ok tt

-- of a bare axis the positions as they are given, without a method
unfoldable pub placed : Search → ℕ → Value → Result Value Fault
placed by n v = unless (is_none by.method) BadArgument >>= λ u. as_selector v >>= λ s. check_positions n s >>= λ w. Ok v

unfoldable pub positions_on : Search → Axis → Value → Result Value Fault
positions_on by x v = elim x.labels [ None ↦ placed by x.size v | Some l ↦ located by l.list v ]

-- one dimension after another
unfoldable pub each_located : Search → List Axis → List (List ℕ × Value) → Result (List (List ℕ × Value)) Fault
each_located by axes [] = Ok []
each_located by axes (kv ∷ kvs) =
    positions_on by (axis_called axes kv.0) kv.1 >>= λ v. each_located by axes kvs >>= λ rest. Ok ((kv.0, v) ∷ rest)

-- ---- sel

-- the arguments of `isel`: arguments by keyword alone; the method and the tolerance; each selector, of a dimension that is there;
-- then the positions
unfoldable pub positions_given : List Axis → Given → Result Given Fault
positions_given axes g =
    unless (length g.plain == 0) BadArgument >>= λ u. search_given g.keyed >>= λ by.
    all_of (check_kind axes) (filter names_dimension g.keyed) >>= λ v. all_of (check_dimension axes) (filter names_dimension g.keyed) >>= λ w.
    each_located by axes (filter names_dimension g.keyed) >>= λ kvs. Ok (record { plain = []; keyed = kvs })

unfoldable pub sel_array : DataArray → Given → Result DataArray Fault
sel_array a g = positions_given a.axes g >>= λ p. isel_array a p

unfoldable pub sel_set : Dataset → Given → Result Dataset Fault
sel_set s g = positions_given s.axes g >>= λ p. isel_set s p
