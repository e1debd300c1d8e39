-- Arrays that a script writes out, and coordinates that it assigns (xarray user guide, "Data Structures", "Coordinates").
use Rattle.std.specs.Prelude.{◌&&◌, ◌||◌, ◌==◌, ℕ, zero, suc, ℤ, pos, Bool, true, false, not, List, [], ◌∷◌, ◌++◌, length, map, drop, find, Option, Some, None, is_some, option_map, Result, Ok, get_or, nat_le, if◌then◌else◌, codes}
use Rattle.std.specs.Str.{bytes_eq}
use Rattle.std.specs.List.{list_any, list_all}
use Rattle.xr_types.specs.declared.fault.Fault.{Fault}
use Rattle.xr_types.specs.declared.fault.Fault.TheVariants.{NoDimension, WrongKind, BadArgument, DoesNotFit, SizeConflict, NotAligned, DuplicateName, TooLarge}
use Rattle.xr_types.specs.declared.axis.Axis.{Axis}
use Rattle.xr_types.specs.declared.axis.Label.{Label}
use Rattle.xr_types.specs.declared.axis.Labels.{Labels}
use Rattle.xr_types.specs.declared.axis.LabelList.{LabelList}
use Rattle.xr_types.specs.declared.axis.LabelList.TheVariants as lists
use Rattle.xr_types.specs.declared.kind.DType.{DType}
use Rattle.xr_types.specs.declared.kind.DType.TheVariants as kinds
use Rattle.xr_defs.specs.declared.value.Content.TheVariants as contents
use Rattle.xr_defs.specs.declared.value.Coord.{Coord}
use Rattle.xr_types.specs.Kinds.{in_range}
use Rattle.xr_types.specs.Results.{◌>>=◌, unless, all_of}
use Rattle.xr_types.specs.Names.{among}
use Rattle.xr_types.specs.Names.{are_distinct}
use Rattle.xr_times.specs.Times.{same_calendar}
use Rattle.xr_arrays.specs.Labels as labels
use Rattle.xr_arrays.specs.Labels.{labels_of}
use Rattle.xr_types.specs.Names.{axis_names}
use Rattle.xr_defs.specs.Values.{DataArray, Dataset, Variable, array_of, axis_position, present}
use Rattle.xr_defs.specs.Limits.{most_dimensions}
use Rattle.xr_defs.specs.Selecting.{axis_called, check_array, check_set}
use Rattle.xr_defs.specs.Parts.{new_name, texts_in, without_idle}
use Rattle.xr_defs.specs.Meanings.{Value, Values, Entries, Absent, Missing, Truth, Number, Text, Sequence, Table, Array, Times, NoValue, With, NoEntry, Entry, Given}
use Rattle.xr_defs.specs.Arguments.{wrong, unfit, as_text}

-- ---- arguments by a signature: plain ones stand for its first parameters, keywords for others, none twice

abbrev pub keyword : List ℕ → List (List ℕ × Value) → Option Value
keyword name kvs = option_map (λ (kv : List ℕ × Value). kv.1) (find (λ (kv : List ℕ × Value). bytes_eq kv.0 name) kvs)

abbrev pub is_keyword_of : List (List ℕ) → List ℕ × Value → Bool
is_keyword_of names kv = among names kv.0

abbrev pub given_value : Option Value → Option Value
given_value (Some Absent) = None
given_value v = v

-- the plain arguments, then those of the other parameters by keyword
unfoldable pub bound : List (List ℕ) → Given → Result (List (Option Value)) Fault
bound names g =
    unless (nat_le (length g.plain) (length names) && list_all (is_keyword_of (drop (length g.plain) names)) g.keyed) BadArgument >>= λ u.
    Ok (map Some g.plain ++ map (λ name. keyword name g.keyed) (drop (length g.plain) names))

abbrev pub argument : List (Option Value) → ℕ → Option Value
argument vs i = get_or vs i None

-- `None` for a parameter that may be left out is no argument
abbrev pub option : List (Option Value) → ℕ → Option Value
option vs i = given_value (argument vs i)

-- ---- an entry: labels for a dimension, or a coordinate that is none

abbrev pub is_number : Value → Bool
is_number (Number n) = true
is_number v = false

abbrev pub is_text : Value → Bool
is_text (Text t) = true
is_text v = false

abbrev pub all_values : (Value → Bool) → Values → Bool
all_values test NoValue = true
all_values test (With vs v) = all_values test vs && test v

abbrev pub numbers_in : Values → List ℤ
numbers_in NoValue = []
numbers_in (With vs (Number n)) = numbers_in vs ++ n ∷ []
numbers_in (With vs v) = numbers_in vs

-- whole numbers have kind int64; an empty list is one of whole numbers
unfoldable pub as_labels : Values → Result LabelList Fault
as_labels vs =
    if all_values is_number vs then Ok (lists.Numbers kinds.Int64 (numbers_in vs))
    else if all_values is_text vs then (texts_in vs >>= λ ts. Ok (lists.Texts ts)) else wrong

abbrev pub is_integer_kind : DType → Bool
is_integer_kind kinds.Bool = false
is_integer_kind kinds.Char = false
is_integer_kind kinds.Int8 = true
is_integer_kind kinds.Int16 = true
is_integer_kind kinds.Int32 = true
is_integer_kind kinds.Int64 = true
is_integer_kind kinds.UInt8 = true
is_integer_kind kinds.UInt16 = true
is_integer_kind kinds.UInt32 = true
is_integer_kind kinds.UInt64 = true

abbrev pub is_chars : DType → Bool
is_chars kinds.Char = true
is_chars kinds.Bool = false
is_chars kinds.Int8 = false
is_chars kinds.Int16 = false
is_chars kinds.Int32 = false
is_chars kinds.Int64 = false
is_chars kinds.UInt8 = false
is_chars kinds.UInt16 = false
is_chars kinds.UInt32 = false
is_chars kinds.UInt64 = false

abbrev pub is_dimension : List Axis → List ℕ → Bool
is_dimension axes name = is_some (axis_position name axes)

-- the array lies along this dimension alone
abbrev pub is_along : List ℕ → DataArray → Bool
is_along name a = (length a.axes == 1) && among (axis_names a.axes) name

unfoldable pub check_labels : List ℕ → Value → Result (Unit {0}) Fault
check_labels name (Sequence vs) = as_labels vs >>= λ l. Ok tt
check_labels name (Array a) = unless (is_integer_kind a.kind) WrongKind >>= λ u. unless (not a.masked && is_along name a) BadArgument
check_labels name (Times coding ts) = Ok tt
check_labels name v = wrong

unfoldable pub check_coordinate : Value → Result (Unit {0}) Fault
check_coordinate (Number n) = Ok tt
check_coordinate (Text t) = Ok tt
check_coordinate (Sequence vs) = Ok tt
check_coordinate (Array a) = unless (nat_le (length a.axes) 1) BadArgument
check_coordinate v = wrong

unfoldable pub check_entry : List Axis → List ℕ × Value → Result (Unit {0}) Fault
check_entry axes kv = if is_dimension axes kv.0 then check_labels kv.0 kv.1 else check_coordinate kv.1

-- a list needs a dimension of its name, and an array the dimension that it has
unfoldable pub check_place : List Axis → List ℕ × Value → Result (Unit {0}) Fault
check_place axes (name, Sequence vs) = unless (is_dimension axes name) (NoDimension name)
check_place axes (name, Array a) = all_of (λ (x : Axis). unless (is_dimension axes x.name) (NoDimension x.name)) a.axes
check_place axes kv = Ok tt

-- ---- an entry in its place

abbrev pub same_labels : List Label → List Label → Bool
same_labels [] [] = true
same_labels (x ∷ xs) (y ∷ ys) = labels.same x y && same_labels xs ys
same_labels xs ys = false

-- times of two calendars are labels of two kinds
abbrev pub have_one_calendar : LabelList → LabelList → Bool
have_one_calendar (lists.Times c ts) (lists.Times d us) = same_calendar c.units.calendar d.units.calendar
have_one_calendar l m = true

abbrev pub equal_labels : LabelList → LabelList → Bool
equal_labels l m = have_one_calendar l m && same_labels (labels_of l) (labels_of m)

-- the axis of an array that is given has the size of the one it stands for, and its labels, or none
unfoldable pub check_axis : List Axis → Axis → Result (Unit {0}) Fault
check_axis axes x =
    unless (x.size == (axis_called axes x.name).size) SizeConflict >>= λ u.
    unless (elim x.labels [ None ↦ true | Some l ↦ elim (axis_called axes x.name).labels [ None ↦ false | Some m ↦ equal_labels l.list m.list ] ]) NotAligned

abbrev pub labels_given : Value → Result Labels Fault
labels_given (Sequence vs) = as_labels vs >>= λ l. Ok (record { list = l; attrs = [] })
labels_given (Array a) = Ok (record { list = lists.Numbers a.kind (present a.cells); attrs = a.attrs })
labels_given (Times coding ts) = Ok (record { list = lists.Times coding ts; attrs = [] })
labels_given v = wrong

-- ---- coordinates assigned

abbrev pub relabelled : List ℕ → Labels → Axis → Axis
relabelled name l x = if bytes_eq x.name name then record x { labels = Some l } else x

abbrev pub coord_relabelled : List ℕ → Labels → Coord → Coord
coord_relabelled name l c = record c { axes = map (relabelled name l) c.axes }

-- in the place of one of its name, or at the end
abbrev pub with_coord : List Coord → Coord → List Coord
with_coord [] d = d ∷ []
with_coord (c ∷ rest) d = if bytes_eq c.name d.name then d ∷ rest else (c ∷ with_coord rest d)

-- axes and coordinates, as an array and a dataset have them
pub record Frame : Type 0 where
  pub axes : List Axis
  pub coords : List Coord

abbrev pub frame_labelled : Frame → List ℕ → Labels → Frame
frame_labelled f name l = record { axes = map (relabelled name l) f.axes; coords = map (coord_relabelled name l) f.coords }

abbrev pub label_total : LabelList → ℕ
label_total l = length (labels_of l)

unfoldable pub with_labels : Frame → List ℕ → Value → Result Frame Fault
with_labels f name v =
    labels_given v >>= λ l. unless (label_total l.list == (axis_called f.axes name).size) SizeConflict >>= λ u. Ok (frame_labelled f name l)

unfoldable pub coordinate_given : List Axis → List ℕ → Value → Result Coord Fault
coordinate_given axes name (Number n) = Ok (record { name = name; axes = []; attrs = []; content = contents.Cells (record { kind = kinds.Int64; shape = []; cells = Some n ∷ [] }) false })
coordinate_given axes name (Text t) = Ok (record { name = name; axes = []; attrs = []; content = contents.Text t })
coordinate_given axes name (Array a) =
    all_of (check_axis axes) a.axes >>= λ u.
    Ok (record { name = name; axes = map (λ (x : Axis). axis_called axes x.name) a.axes; attrs = a.attrs; content = contents.Cells (array_of a) a.masked })
coordinate_given axes name v = wrong

unfoldable pub with_coordinate : Frame → List ℕ → Value → Result Frame Fault
with_coordinate f name v = coordinate_given f.axes name v >>= λ c. Ok (record f { coords = with_coord f.coords c })

-- the name of a data variable is taken
unfoldable pub with_entry : List (List ℕ) → Frame → List ℕ × Value → Result Frame Fault
with_entry variables f kv =
    (if is_dimension f.axes kv.0 then with_labels f kv.0 kv.1 else with_coordinate f kv.0 kv.1) >>= λ g.
    unless (not (among variables kv.0)) DuplicateName >>= λ u. Ok g

unfoldable pub with_entries : List (List ℕ) → Frame → List (List ℕ × Value) → Result Frame Fault
with_entries variables f [] = Ok f
with_entries variables f (kv ∷ kvs) = with_entry variables f kv >>= λ g. with_entries variables g kvs

-- each whole number is one of kind int64
unfoldable pub check_numbers : List ℕ × Value → Result (Unit {0}) Fault
check_numbers (name, Number n) = unless (in_range kinds.Int64 n) DoesNotFit
check_numbers (name, Sequence vs) = unless (list_all (in_range kinds.Int64) (numbers_in vs)) DoesNotFit
check_numbers kv = Ok tt

unfoldable pub entries_assigned : List (List ℕ) → Frame → List (List ℕ × Value) → Result Frame Fault
entries_assigned variables f kvs =
    all_of (check_place f.axes) kvs >>= λ u. with_entries variables f kvs >>= λ g. all_of check_numbers kvs >>= λ v. Ok g

unfoldable pub coords_assigned : List (List ℕ) → Frame → Given → Result Frame Fault
coords_assigned variables f g =
    unless (length g.plain == 0) BadArgument >>= λ u. all_of (check_entry f.axes) g.keyed >>= λ v. entries_assigned variables f g.keyed

abbrev pub frame_of_array : DataArray → Frame
frame_of_array a = record { axes = a.axes; coords = a.coords }

unfoldable pub assigned_to_array : DataArray → Given → Result DataArray Fault
assigned_to_array a g = coords_assigned [] (frame_of_array a) g >>= λ f. Ok (record a { axes = f.axes; coords = f.coords })

abbrev pub variable_names : Dataset → List (List ℕ)
variable_names set = map (λ (v : Variable). v.name) set.vars

abbrev pub with_frame : Dataset → Frame → Dataset
with_frame set f = record set { axes = f.axes; coords = f.coords }

-- a coordinate that is replaced may have been the last along a bare axis, which is gone then
unfoldable pub assigned_to_set : Dataset → Given → Result Dataset Fault
assigned_to_set set g =
    coords_assigned (variable_names set) (record { axes = set.axes; coords = set.coords }) g >>= λ f. Ok (without_idle (with_frame set f)) >>= λ t. check_set t >>= λ u. Ok t

-- ---- DataArray(data, dims, coords, name, dtype)

-- the elements of a nested list in their order; another value is its one element
unfoldable mutual
  pub elements : Value → List Value
  elements (Sequence vs) = elements_of vs
  elements v = v ∷ []

  pub elements_of : Values → List Value
  elements_of NoValue = []
  elements_of (With vs v) = elements_of vs ++ elements v

abbrev pub is_whole_cell : Value → Bool
is_whole_cell (Number n) = true
is_whole_cell Missing = true
is_whole_cell v = false

abbrev pub is_truth_cell : Value → Bool
is_truth_cell (Truth b) = true
is_truth_cell Missing = true
is_truth_cell v = false

abbrev pub is_missing : Value → Bool
is_missing Missing = true
is_missing v = false

-- whole numbers, or truth values, with missing cells among them
unfoldable pub check_elements : List Value → Result (Unit {0}) Fault
check_elements vs = unless (list_all is_whole_cell vs || list_all is_truth_cell vs) WrongKind

unfoldable pub dims_given : Option Value → Result (List (List ℕ)) Fault
dims_given None = unfit
dims_given (Some (Sequence vs)) = texts_in vs >>= λ names. unless (are_distinct names && list_all (λ n. not (length n == 0)) names) BadArgument >>= λ u. Ok names
dims_given (Some v) = wrong

abbrev pub items : Values → List Value
items NoValue = []
items (With vs v) = items vs ++ v ∷ []

-- nested as deep as there are dimensions; an empty list stands in the last of them alone
abbrev pub is_nested : ℕ → Value → Bool
is_nested zero (Sequence vs) = false
is_nested zero v = true
is_nested (suc zero) (Sequence vs) = list_all (is_nested zero) (items vs)
is_nested (suc (suc k)) (Sequence NoValue) = false
is_nested (suc (suc k)) (Sequence (With vs v)) = list_all (is_nested (suc k)) (items (With vs v))
is_nested (suc k) v = false

-- the lengths of the first lists, and whether all of one depth are as long
abbrev pub first_item : Value → Value
first_item (Sequence vs) = get_or (items vs) 0 Absent
first_item v = v

abbrev pub item_count : Value → ℕ
item_count (Sequence vs) = length (items vs)
item_count v = 0

abbrev pub nested_shape : ℕ → Value → List ℕ
nested_shape zero v = []
nested_shape (suc k) v = item_count v ∷ nested_shape k (first_item v)

abbrev pub is_regular : List ℕ → Value → Bool
is_regular (n ∷ ns) (Sequence vs) = (length (items vs) == n) && list_all (is_regular ns) (items vs)
is_regular ns v = true

abbrev pub kinds_named : List (List ℕ × DType)
kinds_named =
    (codes "bool", kinds.Bool) ∷ (codes "int8", kinds.Int8) ∷ (codes "int16", kinds.Int16) ∷ (codes "int32", kinds.Int32) ∷ (codes "int64", kinds.Int64)
    ∷ (codes "uint8", kinds.UInt8) ∷ (codes "uint16", kinds.UInt16) ∷ (codes "uint32", kinds.UInt32) ∷ (codes "uint64", kinds.UInt64) ∷ []

abbrev pub kind_named : List ℕ → List (List ℕ × DType) → Option DType
kind_named t [] = None
kind_named t (p ∷ ps) = if bytes_eq p.0 t then Some p.1 else kind_named t ps

unfoldable pub kind_given : Option Value → Result (Option DType) Fault
kind_given None = Ok None
kind_given (Some v) = as_text v >>= λ t. elim (kind_named t kinds_named) [ None ↦ unfit | Some k ↦ Ok (Some k) ]

abbrev pub element_kind : List Value → DType
element_kind vs = if list_all is_whole_cell vs then kinds.Int64 else kinds.Bool

abbrev pub kind_for : List Value → Option DType → DType
kind_for vs None = element_kind vs
kind_for vs (Some k) = k

abbrev pub suits : DType → List Value → Bool
suits kinds.Bool vs = list_all is_truth_cell vs
suits kinds.Char vs = list_all is_whole_cell vs
suits kinds.Int8 vs = list_all is_whole_cell vs
suits kinds.Int16 vs = list_all is_whole_cell vs
suits kinds.Int32 vs = list_all is_whole_cell vs
suits kinds.Int64 vs = list_all is_whole_cell vs
suits kinds.UInt8 vs = list_all is_whole_cell vs
suits kinds.UInt16 vs = list_all is_whole_cell vs
suits kinds.UInt32 vs = list_all is_whole_cell vs
suits kinds.UInt64 vs = list_all is_whole_cell vs

abbrev pub truth_number : Bool → ℤ
truth_number true = pos 1
truth_number false = pos 0

abbrev pub element_cell : Value → Option ℤ
element_cell (Number n) = Some n
element_cell (Truth b) = Some (truth_number b)
element_cell v = None

abbrev pub fits_kind : DType → Option ℤ → Bool
fits_kind k None = true
fits_kind k (Some n) = in_range k n

abbrev pub entries_in : Entries → List (List ℕ × Value)
entries_in NoEntry = []
entries_in (Entry es t v) = entries_in es ++ (t, v) ∷ []

abbrev pub is_named_entry : List ℕ × Value → Bool
is_named_entry kv = not (length kv.0 == 0)

-- the kind of its value, then the value, and then its key, which isn't empty
unfoldable pub check_table_entry : List Axis → List ℕ × Value → Result (Unit {0}) Fault
check_table_entry axes kv = check_entry axes kv >>= λ u. unless (is_named_entry kv) BadArgument

unfoldable pub entries_given : List Axis → Option Value → Result (List (List ℕ × Value)) Fault
entries_given axes None = Ok []
entries_given axes (Some (Table es)) = all_of (check_table_entry axes) (entries_in es) >>= λ u. Ok (entries_in es)
entries_given axes (Some v) = wrong

unfoldable pub name_given : Option Value → Result (Option (List ℕ)) Fault
name_given None = Ok None
name_given (Some v) = new_name v >>= λ t. Ok (Some t)

abbrev pub bare_axes : List (List ℕ) → List ℕ → List Axis
bare_axes (d ∷ ds) (n ∷ ns) = record { name = d; size = n; labels = None } ∷ bare_axes ds ns
bare_axes ds ns = []

abbrev pub parameters : List (List ℕ)
parameters = codes "data" ∷ codes "dims" ∷ codes "coords" ∷ codes "name" ∷ codes "dtype" ∷ []

abbrev pub required : Option Value → Result Value Fault
required v = elim v [ None ↦ unfit | Some x ↦ Ok x ]

-- the array over bare axes, before its coordinates are assigned
abbrev pub plain_array : List Axis → Option (List ℕ) → DType → List Value → DataArray
plain_array axes name kind vs =
    record { name = name; axes = axes; kind = kind; masked = list_any is_missing vs; attrs = []; coords = []; cells = map element_cell vs }

unfoldable pub array_built : Value → List (List ℕ) → List Axis → List (Option Value) → Result DataArray Fault
array_built content dims axes vs =
    entries_given axes (option vs 2) >>= λ entries. name_given (option vs 3) >>= λ name. kind_given (option vs 4) >>= λ dtype.
    unless (suits (kind_for (elements content) dtype) (elements content)) WrongKind >>= λ a. all_of (check_place axes) entries >>= λ b.
    unless (is_regular (nested_shape (length dims) content) content) SizeConflict >>= λ c. with_entries [] (record { axes = axes; coords = [] }) entries >>= λ f.
    unless (list_all (λ v. fits_kind (kind_for (elements content) dtype) (element_cell v)) (elements content)) DoesNotFit >>= λ d. all_of check_numbers entries >>= λ e.
    unless (nat_le (length dims) most_dimensions) TooLarge >>= λ g.
    Ok (record (plain_array f.axes name (kind_for (elements content) dtype) (elements content)) { coords = f.coords })

unfoldable pub data_array : Given → Result DataArray Fault
data_array g =
    bound parameters g >>= λ vs. required (argument vs 0) >>= λ content. required (argument vs 1) >>= λ dimensions.
    check_elements (elements content) >>= λ a. dims_given (Some dimensions) >>= λ dims. unless (is_nested (length dims) content) BadArgument >>= λ b.
    array_built content dims (bare_axes dims (nested_shape (length dims) content)) vs >>= λ x. check_array x >>= λ c. Ok x
