-- The classic file of a dataset, and what it is refused for (CF Conventions; xarray, `Dataset.to_netcdf`).
use Rattle.std.specs.Prelude.{◌-◌, ◌==◌, ◌&&◌, ◌||◌, ℕ, ℤ, pos, ◌-ℤ◌, List, [], ◌∷◌, ◌++◌, length, map, drop, filter, filter_map, find, flat_map, fold, replicate, Option, Some, None, is_some, is_none, option_map, unwrap_or, Result, Ok, Bool, true, false, not, if◌then◌else◌, max, codes}
use Rattle.std.specs.Str.{bytes_eq}
use Rattle.std.specs.List.{list_any, list_all, position_or_len, prefix_len, join_with_byte}
use Rattle.std.specs.Int.{w8, w16, w32, w64, to_be_bytes, cast_unsigned}
use Rattle.xr_types.specs.declared.fault.Fault.{Fault}
use Rattle.xr_types.specs.declared.fault.Fault.TheVariants.{NoDimension, DuplicateName, CannotHold, NoFill, DoesNotFit, FillCollides, TooLarge}
use Rattle.xr_types.specs.declared.attr.Attr.{Attr}
use Rattle.xr_types.specs.declared.attr.NcType.{NcType}
use Rattle.xr_types.specs.declared.attr.NcType.TheVariants.{Byte, Char, Short, Int, Float, Double, UByte, UShort, UInt, Int64, UInt64}
use Rattle.xr_types.specs.declared.axis.Axis.{Axis}
use Rattle.xr_types.specs.declared.axis.Labels.{Labels}
use Rattle.xr_types.specs.declared.axis.LabelList.{LabelList}
use Rattle.xr_types.specs.declared.axis.LabelList.TheVariants.{Numbers, Times, Texts}
use Rattle.xr_types.specs.declared.axis.TimeCoding.{TimeCoding}
use Rattle.xr_types.specs.declared.axis.TimeUnit.{TimeUnit}
use Rattle.xr_types.specs.declared.axis.TimeUnit.TheVariants.{Days, Hours, Minutes, Seconds}
use Rattle.xr_types.specs.declared.kind.DType.{DType}
use Rattle.xr_types.specs.declared.kind.DType.TheVariants as kinds
use Rattle.xr_files.specs.declared.file.CdfDim.{CdfDim}
use Rattle.xr_files.specs.declared.file.CdfVar.{CdfVar}
use Rattle.xr_files.specs.declared.file.CdfFile.{CdfFile}
use Rattle.xr_defs.specs.declared.value.Content.{Content}
use Rattle.xr_defs.specs.declared.value.Content.TheVariants as contents
use Rattle.xr_defs.specs.declared.value.Coord.{Coord}
use Rattle.xr_defs.specs.declared.write_options.WriteOptions.{WriteOptions}
use Rattle.xr_types.specs.Kinds.{in_range}
use Rattle.xr_types.specs.Results.{◌>>=◌, unless, all_of}
use Rattle.xr_types.specs.Names.{among}
use Rattle.xr_files.specs.Canonical.{has_types, is_small}
use Rattle.xr_types.specs.Names.{axis_names}
use Rattle.xr_defs.specs.Values.{Dataset, Variable}
use Rattle.xr_defs.specs.Decoding.{is_attr, is_blank, own_fill, fill_numbers, string_name}
use Rattle.xr_arrays.specs.Elements.{floor_quotient}
use Rattle.xr_arrays.specs.Stored.{is_fill}
use Rattle.xr_times.specs.Times.{unit_seconds}
use Rattle.xr_times.specs.Counts.{written_unit}
use Rattle.xr_times.specs.Units as units
use Rattle.xr_defs.specs.Printing.{by_name}

-- ---- types

-- the type in which versions 1 and 2 write a kind, by its width
abbrev pub classic_type : DType → NcType
classic_type kinds.Bool = Byte
classic_type kinds.Char = Char
classic_type kinds.Int8 = Byte
classic_type kinds.Int16 = Short
classic_type kinds.Int32 = Int
classic_type kinds.Int64 = Int
classic_type kinds.UInt8 = Byte
classic_type kinds.UInt16 = Short
classic_type kinds.UInt32 = Int
classic_type kinds.UInt64 = Int

-- the type that version 5 has for a kind
abbrev pub own_type : DType → NcType
own_type kinds.Bool = Byte
own_type kinds.Char = Char
own_type kinds.Int8 = Byte
own_type kinds.Int16 = Short
own_type kinds.Int32 = Int
own_type kinds.Int64 = Int64
own_type kinds.UInt8 = UByte
own_type kinds.UInt16 = UShort
own_type kinds.UInt32 = UInt
own_type kinds.UInt64 = UInt64

-- the type in which a version writes a kind
abbrev pub type_of : ℕ → DType → NcType
type_of version kind = if version == 5 then own_type kind else classic_type kind

-- a type holds a number
abbrev pub holds : NcType → ℤ → Bool
holds Byte n = in_range kinds.Int8 n
holds Char n = in_range kinds.Char n
holds Short n = in_range kinds.Int16 n
holds Int n = in_range kinds.Int32 n
holds Float n = false
holds Double n = false
holds UByte n = in_range kinds.UInt8 n
holds UShort n = in_range kinds.UInt16 n
holds UInt n = in_range kinds.UInt32 n
holds Int64 n = in_range kinds.Int64 n
holds UInt64 n = in_range kinds.UInt64 n

-- the kind whose numbers may stand for missing cells of a kind; truth values are written as bytes
abbrev pub filling_kind : DType → DType
filling_kind kinds.Bool = kinds.Int8
filling_kind kinds.Char = kinds.Char
filling_kind kinds.Int8 = kinds.Int8
filling_kind kinds.Int16 = kinds.Int16
filling_kind kinds.Int32 = kinds.Int32
filling_kind kinds.Int64 = kinds.Int64
filling_kind kinds.UInt8 = kinds.UInt8
filling_kind kinds.UInt16 = kinds.UInt16
filling_kind kinds.UInt32 = kinds.UInt32
filling_kind kinds.UInt64 = kinds.UInt64

abbrev pub may_fill : DType → ℤ → Bool
may_fill kind n = in_range (filling_kind kind) n

-- a number as the bytes of a value, big-endian; fractions aren't written
abbrev pub value_bytes : NcType → ℤ → List ℕ
value_bytes Byte n = to_be_bytes w8 (cast_unsigned w8 n)
value_bytes Char n = to_be_bytes w8 (cast_unsigned w8 n)
value_bytes Short n = to_be_bytes w16 (cast_unsigned w16 n)
value_bytes Int n = to_be_bytes w32 (cast_unsigned w32 n)
value_bytes Float n = []
value_bytes Double n = []
value_bytes UByte n = to_be_bytes w8 (cast_unsigned w8 n)
value_bytes UShort n = to_be_bytes w16 (cast_unsigned w16 n)
value_bytes UInt n = to_be_bytes w32 (cast_unsigned w32 n)
value_bytes Int64 n = to_be_bytes w64 (cast_unsigned w64 n)
value_bytes UInt64 n = to_be_bytes w64 (cast_unsigned w64 n)

-- ---- the variables to be written

-- a variable with its cells; `coding` are the attributes that say how its numbers count times, and `lists` the coordinates that
-- its attribute `coordinates` will name
pub record Stored : Type 0 where
  pub name : List ℕ
  pub dims : List (List ℕ)
  pub kind : DType
  pub masked : Bool
  pub attrs : List Attr
  pub cells : List (Option ℤ)
  pub coding : List Attr
  pub lists : List (List ℕ)

-- texts are rows of as many bytes as the longest has, and at least one, filled up with NULs
abbrev pub text_width : List (List ℕ) → ℕ
text_width texts = fold max 1 (map length texts)

abbrev pub filled_up : ℕ → List ℕ → List ℕ
filled_up w text = text ++ replicate (w - length text) 0

abbrev pub text_cells : List (List ℕ) → List (Option ℤ)
text_cells texts = map (λ b. Some (pos b)) (flat_map (filled_up (text_width texts)) texts)

abbrev pub stored_texts : List ℕ → List (List ℕ) → List Attr → List (List ℕ) → Stored
stored_texts name dims attrs texts =
    record { name = name; dims = dims ++ string_name (text_width texts) ∷ []; kind = kinds.Char; masked = false; attrs = attrs; cells = text_cells texts; coding = []; lists = [] }

abbrev pub stored_cells : List ℕ → List (List ℕ) → DType → Bool → List Attr → List (Option ℤ) → Stored
stored_cells name dims kind masked attrs cells = record { name = name; dims = dims; kind = kind; masked = masked; attrs = attrs; cells = cells; coding = []; lists = [] }

abbrev pub text_attr : List ℕ → List ℕ → Attr
text_attr name text = record { name = name; kind = Char; raw = text }

-- times are counts of their unit, or of a finer one where not all are whole, from the reference as its text gives it
abbrev pub unit_name : TimeUnit → List ℕ
unit_name Days = codes "days"
unit_name Hours = codes "hours"
unit_name Minutes = codes "minutes"
unit_name Seconds = codes "seconds"

abbrev pub same_unit : TimeUnit → TimeUnit → Bool
same_unit Days Days = true
same_unit Hours Hours = true
same_unit Minutes Minutes = true
same_unit Seconds Seconds = true
same_unit u v = false

-- the text after `since` and the blanks round it
unfoldable pub reference_text : List ℕ → List ℕ
reference_text text = unwrap_or (units.behind_word (drop (prefix_len units.is_dark text) text)) []

unfoldable pub units_written : TimeCoding → TimeUnit → List ℕ
units_written coding u =
    if same_unit u coding.units.unit then coding.units_text else unit_name u ++ (codes " since " ++ reference_text coding.units_text)

abbrev pub calendar_attr : Option (List ℕ) → List Attr
calendar_attr None = []
calendar_attr (Some text) = text_attr (codes "calendar") text ∷ []

abbrev pub coding_attrs : TimeCoding → TimeUnit → List Attr
coding_attrs coding u = text_attr (codes "units") (units_written coding u) ∷ calendar_attr coding.calendar_text

abbrev pub count_of : TimeUnit → ℤ → ℤ → ℤ
count_of u reference t = floor_quotient (t -ℤ reference) (pos (unit_seconds u))

-- with the unit in which the times are written
abbrev pub stored_times : List ℕ → List (List ℕ) → List Attr → TimeCoding → List ℤ → TimeUnit → Stored
stored_times name dims attrs coding ts u =
    record (stored_cells name dims kinds.Int64 false attrs (map (λ t. Some (count_of u coding.units.reference t)) ts)) { coding = coding_attrs coding u }

abbrev pub stored_labels : List ℕ → List Attr → LabelList → Stored
stored_labels name attrs (Numbers kind ns) = stored_cells name (name ∷ []) kind false attrs (map Some ns)
stored_labels name attrs (Times coding ts) = stored_times name (name ∷ []) attrs coding ts (written_unit coding.units ts)
stored_labels name attrs (Texts texts) = stored_texts name (name ∷ []) attrs texts

abbrev pub stored_index : Axis → Option Stored
stored_index x = option_map (λ (l : Labels). stored_labels x.name l.attrs l.list) x.labels

abbrev pub stored_content : Coord → Content → Stored
stored_content c (contents.Cells a masked) = stored_cells c.name (axis_names c.axes) a.kind masked c.attrs a.cells
stored_content c (contents.Text text) = stored_texts c.name [] c.attrs (text ∷ [])
stored_content c (contents.Time coding t) = stored_times c.name [] c.attrs coding (t ∷ []) (written_unit coding.units (t ∷ []))

abbrev pub stored_coord : Coord → Stored
stored_coord c = stored_content c c.content

-- ---- coordinates are listed by the data variables that have all their dimensions

abbrev pub all_among : List (List ℕ) → List (List ℕ) → Bool
all_among names ds = list_all (among names) ds

abbrev pub coords_over : List (List ℕ) → List Coord → List Coord
coords_over dims coords = filter (λ (c : Coord). all_among dims (axis_names c.axes)) coords

abbrev pub coord_names : List Coord → List (List ℕ)
coord_names coords = map (λ (c : Coord). c.name) coords

-- ascending by their bytes
abbrev pub listed_by : Dataset → Variable → List (List ℕ)
listed_by set v = coord_names (by_name (coords_over v.dims set.coords))

abbrev pub stored_variable : Dataset → Variable → Stored
stored_variable set v = record (stored_cells v.name v.dims v.kind v.masked v.attrs v.cells) { lists = listed_by set v }

-- indexes in the order of the axes, other coordinates by name, data variables in order
abbrev pub stored : Dataset → List Stored
stored set = filter_map stored_index set.axes ++ (map stored_coord (by_name set.coords) ++ map (stored_variable set) set.vars)

-- those that no variable lists are listed by the file
abbrev pub is_listed : Dataset → List ℕ → Bool
is_listed set name = list_any (λ v. among (listed_by set v) name) set.vars

abbrev pub listed_by_none : Dataset → List (List ℕ)
listed_by_none set = filter (λ n. not (is_listed set n)) (coord_names (by_name set.coords))

-- ---- the dimensions of texts, `string` and their width, in the order in which they are needed

abbrev pub labels_width : LabelList → Option ℕ
labels_width (Numbers kind ns) = None
labels_width (Times coding ts) = None
labels_width (Texts texts) = Some (text_width texts)

abbrev pub index_width : Axis → Option ℕ
index_width x = elim x.labels [ None ↦ None | Some l ↦ labels_width l.list ]

abbrev pub content_width : Content → Option ℕ
content_width (contents.Cells a masked) = None
content_width (contents.Text text) = Some (text_width (text ∷ []))
content_width (contents.Time coding t) = None

abbrev pub coord_width : Coord → Option ℕ
coord_width c = content_width c.content

-- each once, where it stands first
abbrev pub each_once : List ℕ → List ℕ → List ℕ
each_once seen [] = []
each_once seen (n ∷ ns) = if list_any (λ m. m == n) seen then each_once seen ns else (n ∷ each_once (n ∷ seen) ns)

abbrev pub text_widths : Dataset → List ℕ
text_widths set = each_once [] (filter_map index_width set.axes ++ filter_map coord_width (by_name set.coords))

-- ---- fill numbers

-- a masked variable's missing cells are written as its `_FillValue`, else as the first of its `missing_value`, else by the option
abbrev pub first_of : List ℤ → Option ℤ
first_of [] = None
first_of (n ∷ ns) = Some n

abbrev pub attr_fill : Stored → Option ℤ
attr_fill o = first_of (fill_numbers o.attrs)

abbrev pub fill_for : WriteOptions → Stored → Option ℤ
fill_for options o = elim (attr_fill o) [ Some n ↦ Some n | None ↦ options.fill ]

abbrev pub uses_option : WriteOptions → Stored → Bool
uses_option options o = o.masked && is_none (attr_fill o) && is_some options.fill

-- ---- attributes

-- the type in which a variable is written
abbrev pub written_type : WriteOptions → Stored → NcType
written_type options o = type_of options.version o.kind

abbrev pub fill_attr : WriteOptions → Stored → ℤ → Attr
fill_attr options o n = record { name = codes "_FillValue"; kind = written_type options o; raw = value_bytes (written_type options o) n }

abbrev pub dtype_added : DType → List Attr
dtype_added kinds.Bool = text_attr (codes "dtype") (codes "bool") ∷ []
dtype_added kind = []

abbrev pub fill_added : WriteOptions → Stored → List Attr
fill_added options o = if uses_option options o then fill_attr options o (unwrap_or options.fill (pos 0)) ∷ [] else []

abbrev pub coordinates_added : List (List ℕ) → List Attr
coordinates_added [] = []
coordinates_added (n ∷ ns) = text_attr (codes "coordinates") (join_with_byte 32 (n ∷ ns)) ∷ []

abbrev pub added : WriteOptions → Stored → List Attr
added options o = o.coding ++ (dtype_added o.kind ++ (fill_added options o ++ coordinates_added o.lists))

-- a `_FillValue` in use is written with the variable's type
abbrev pub is_fill_in_use : Stored → Attr → Bool
is_fill_in_use o a = o.masked && is_attr (codes "_FillValue") a && not (length (own_fill o.attrs) == 0)

abbrev pub own_attr : WriteOptions → Stored → Attr → Attr
own_attr options o a = if is_fill_in_use o a then fill_attr options o (unwrap_or (attr_fill o) (pos 0)) else a

abbrev pub attrs_of : WriteOptions → Stored → List Attr
attrs_of options o = map (own_attr options o) o.attrs ++ added options o

-- ---- the file

abbrev pub empty_axes : Dataset → List (List ℕ)
empty_axes set = axis_names (filter (λ (x : Axis). x.size == 0) set.axes)

abbrev pub first_name : List (List ℕ) → Option (List ℕ)
first_name [] = None
first_name (n ∷ ns) = Some n

-- the record dimension: the one that is asked for, or the axis of size 0
abbrev pub record_dim : Dataset → WriteOptions → Option (List ℕ)
record_dim set options = elim options.unlimited [ Some d ↦ Some d | None ↦ first_name (empty_axes set) ]

abbrev pub is_that : Option (List ℕ) → List ℕ → Bool
is_that None name = false
is_that (Some d) name = bytes_eq d name

abbrev pub axis_named : List ℕ → List Axis → Option Axis
axis_named name axes = find (λ (x : Axis). bytes_eq x.name name) axes

abbrev pub dim_of_axis : Option (List ℕ) → Axis → CdfDim
dim_of_axis records x = record { name = x.name; len = if is_that records x.name then 0 else x.size }

abbrev pub string_dim : ℕ → CdfDim
string_dim n = record { name = string_name n; len = n }

-- the axes in order, then the dimensions of texts that no axis is
abbrev pub dims_of : Dataset → WriteOptions → List CdfDim
dims_of set options =
    map (dim_of_axis (record_dim set options)) set.axes ++ map string_dim (filter (λ n. is_none (axis_named (string_name n) set.axes)) (text_widths set))

abbrev pub number_of_dim : List CdfDim → List ℕ → ℕ
number_of_dim dims name = position_or_len (λ (d : CdfDim). bytes_eq d.name name) dims

abbrev pub number_for : WriteOptions → Stored → Option ℤ → ℤ
number_for options o c = elim c [ Some n ↦ n | None ↦ unwrap_or (fill_for options o) (pos 0) ]

abbrev pub var_of : List CdfDim → WriteOptions → Stored → CdfVar
var_of dims options o =
    record {
      name = o.name;
      dims = map (number_of_dim dims) o.dims;
      attrs = attrs_of options o;
      kind = written_type options o;
      raw = flat_map (λ c. value_bytes (written_type options o) (number_for options o c)) o.cells;
    }

abbrev pub records_of : Dataset → WriteOptions → ℕ
records_of set options =
    elim (record_dim set options) [ None ↦ 0 | Some d ↦ elim (axis_named d set.axes) [ None ↦ 0 | Some x ↦ x.size ] ]

abbrev pub encoded : Dataset → WriteOptions → CdfFile
encoded set options =
    record {
      version = options.version;
      numrecs = records_of set options;
      dims = dims_of set options;
      attrs = set.attrs ++ coordinates_added (listed_by_none set);
      vars = map (var_of (dims_of set options) options) (stored set);
    }

-- ---- the checks, in their order

-- the dimension that is asked for is there
unfoldable pub check_unlimited : Dataset → WriteOptions → Result (Unit {0}) Fault
check_unlimited set options = elim options.unlimited [ None ↦ Ok tt | Some d ↦ unless (is_some (axis_named d set.axes)) (NoDimension d) ]

-- the labels of an axis are texts of that width
abbrev pub has_texts_of : ℕ → Axis → Bool
has_texts_of n x = elim (index_width x) [ None ↦ false | Some w ↦ w == n ]

-- an axis that is a dimension of texts has their width, and its own labels aren't texts of it, whose variable would have that
-- dimension twice; and no attribute that is added is there already
abbrev pub has_width : Dataset → ℕ → Bool
has_width set n = elim (axis_named (string_name n) set.axes) [ None ↦ true | Some x ↦ x.size == n && not (has_texts_of n x) ]

abbrev pub are_new : List Attr → List Attr → Bool
are_new own more = not (list_any (λ (a : Attr). list_any (is_attr a.name) own) more)

unfoldable pub check_names : Dataset → WriteOptions → Result (Unit {0}) Fault
check_names set options =
    unless (list_all (has_width set) (text_widths set)) DuplicateName >>= λ u.
    unless (list_all (λ o. are_new o.attrs (added options o)) (stored set)) DuplicateName >>= λ v.
    unless (are_new set.attrs (coordinates_added (listed_by_none set))) DuplicateName

-- one record dimension at most, which stands first only; no coordinate's name has a blank; and the version has the type of each
-- attribute, as it is written
abbrev pub stands_first : Option (List ℕ) → Stored → Bool
stands_first records o = not (list_any (is_that records) (drop 1 o.dims))

unfoldable pub check_records : Dataset → WriteOptions → Result (Unit {0}) Fault
check_records set options =
    unless (list_all (is_that (record_dim set options)) (empty_axes set)) CannotHold >>= λ u.
    unless (list_all (stands_first (record_dim set options)) (stored set)) CannotHold >>= λ v.
    unless (not (list_any (λ name. list_any is_blank name) (coord_names set.coords))) CannotHold >>= λ w.
    unless (has_types options.version set.attrs && list_all (λ o. has_types options.version (attrs_of options o)) (stored set)) CannotHold

-- a masked variable has a number for its missing cells
unfoldable pub check_fill : WriteOptions → Stored → Result (Unit {0}) Fault
check_fill options o = unless (not o.masked || is_some (fill_for options o)) NoFill

-- the option's number is one of the kind, and the number in use one of the type
unfoldable pub check_fit : WriteOptions → Stored → Result (Unit {0}) Fault
check_fit options o =
    unless (not (uses_option options o) || may_fill o.kind (unwrap_or options.fill (pos 0))) DoesNotFit >>= λ u.
    unless (not o.masked || holds (written_type options o) (unwrap_or (fill_for options o) (pos 0))) CannotHold

-- the type holds each number, and no number that is present reads as missing
abbrev pub holds_cell : NcType → Option ℤ → Bool
holds_cell t None = true
holds_cell t (Some n) = holds t n

abbrev pub fills_in_use : WriteOptions → Stored → List ℤ
fills_in_use options o = if uses_option options o then unwrap_or options.fill (pos 0) ∷ [] else fill_numbers o.attrs

abbrev pub is_fill_cell : List ℤ → Option ℤ → Bool
is_fill_cell fills None = false
is_fill_cell fills (Some n) = is_fill fills n

unfoldable pub check_cells : WriteOptions → Stored → Result (Unit {0}) Fault
check_cells options o =
    unless (list_all (holds_cell (written_type options o)) o.cells) CannotHold >>= λ u.
    unless (not (o.masked && list_any (is_fill_cell (fills_in_use options o)) o.cells)) FillCollides

-- the file of a dataset, or the first fault
unfoldable pub file_of : Dataset → WriteOptions → Result CdfFile Fault
file_of set options =
    check_unlimited set options >>= λ a. check_names set options >>= λ b. check_records set options >>= λ c.
    all_of (check_fill options) (stored set) >>= λ d. all_of (check_fit options) (stored set) >>= λ e.
    all_of (check_cells options) (stored set) >>= λ f. unless (is_small (encoded set options)) TooLarge >>= λ g.
    Ok (encoded set options)
