-- The dataset of a classic file (CF Conventions, "Coordinate Systems", "Time Coordinate" and "Missing data"; xarray, `decode_cf`).
use Rattle.std.specs.Prelude.{◌+◌, ◌-◌, ◌*◌, ◌==◌, ◌&&◌, ◌||◌, ℕ, ℤ, pos, negsuc, List, [], ◌∷◌, ◌++◌, length, map, filter, find, take, drop, flat_map, Option, Some, None, is_some, option_map, unwrap_or, Result, Ok, Err, Bool, true, false, not, if◌then◌else◌, nat_lt, nat_le, codes}
use Rattle.std.specs.Fmt.{decimal}
use Rattle.std.specs.Str.{is_utf8, bytes_eq}
use Rattle.std.specs.List.{list_any, list_all, suffix_len, slice_split, range_with_len}
use Rattle.xr_types.specs.declared.fault.Fault.{Fault}
use Rattle.xr_types.specs.declared.fault.Fault.TheVariants.{BadFile, TooLarge}
use Rattle.xr_types.specs.declared.attr.Attr.{Attr}
use Rattle.xr_types.specs.declared.attr.NcType.{NcType}
use Rattle.xr_types.specs.declared.attr.NcType.TheVariants.{Byte, Char}
use Rattle.xr_types.specs.declared.axis.Axis.{Axis}
use Rattle.xr_types.specs.declared.axis.Labels.{Labels}
use Rattle.xr_types.specs.declared.axis.LabelList.{LabelList}
use Rattle.xr_types.specs.declared.axis.LabelList.TheVariants.{Numbers, Times, Texts}
use Rattle.xr_types.specs.declared.axis.TimeCoding.{TimeCoding}
use Rattle.xr_types.specs.declared.axis.Units.{Units}
use Rattle.xr_types.specs.declared.kind.DType.TheVariants as kinds
use Rattle.xr_files.specs.declared.file.CdfDim.{CdfDim}
use Rattle.xr_files.specs.declared.file.CdfVar.{CdfVar}
use Rattle.xr_files.specs.declared.file.CdfFile.{CdfFile}
use Rattle.xr_defs.specs.declared.value.Content.TheVariants as contents
use Rattle.xr_defs.specs.declared.value.Coord.{Coord}
use Rattle.xr_types.specs.Results.{◌>>=◌, unless}
use Rattle.xr_types.specs.Points.{size}
use Rattle.xr_types.specs.Names.{among}
use Rattle.xr_files.specs.Classic.{dim_at}
use Rattle.xr_files.specs.Files.{file_in, positions, shape_of}
use Rattle.xr_arrays.specs.Numbers.{is_whole, cells_kind, numbers_of}
use Rattle.xr_arrays.specs.Stored.{stored_cells}
use Rattle.xr_times.specs.Times.{decoded}
use Rattle.xr_times.specs.Units.{units_of}
use Rattle.xr_defs.specs.Limits.{are_different, most_cells, most_dimensions, most_variables}
use Rattle.xr_types.specs.Names.{shape_over, axis_names}
use Rattle.xr_defs.specs.Values.{Dataset, Variable}

-- ---- types and attributes

abbrev pub is_char : NcType → Bool
is_char Char = true
is_char t = false

abbrev pub is_byte : NcType → Bool
is_byte Byte = true
is_byte t = false

-- a type of numbers that are whole
abbrev pub is_integer : NcType → Bool
is_integer t = is_whole t && not (is_char t)

abbrev pub is_attr : List ℕ → Attr → Bool
is_attr name a = bytes_eq a.name name

abbrev pub is_char_attr : List ℕ → Attr → Bool
is_char_attr name a = is_attr name a && is_char a.kind

-- the text of an attribute of type char; none where there is no such attribute
abbrev pub text_attr : List ℕ → List Attr → Option (List ℕ)
text_attr name attrs = option_map (λ (a : Attr). a.raw) (find (is_char_attr name) attrs)

abbrev pub without_text_attr : List ℕ → List Attr → List Attr
without_text_attr name attrs = filter (λ a. not (is_char_attr name a)) attrs

abbrev pub attr_says : List ℕ → List ℕ → List Attr → Bool
attr_says name text attrs = elim (text_attr name attrs) [ None ↦ false | Some t ↦ bytes_eq t text ]

-- the numbers of an attribute of whole numbers; none of another
abbrev pub attr_numbers : List ℕ → List Attr → List ℤ
attr_numbers name attrs = elim (find (is_attr name) attrs) [ None ↦ [] | Some a ↦ if is_integer a.kind then numbers_of a.kind a.raw else [] ]

-- ---- texts

-- a blank is a space or a tab
abbrev pub is_blank : ℕ → Bool
is_blank b = b == 32 || b == 9

-- the words between blanks
abbrev pub words : List ℕ → List (List ℕ)
words text = filter (λ w. not (length w == 0)) (slice_split is_blank text)

abbrev pub without_nuls : List ℕ → List ℕ
without_nuls bytes = take (length bytes - suffix_len (λ b. b == 0) bytes) bytes

-- the text in bytes without their trailing NULs, where it is UTF-8
abbrev pub text_in : List ℕ → Option (List ℕ)
text_in bytes = if is_utf8 (without_nuls bytes) then Some (without_nuls bytes) else None

-- all of them, where none is missing
abbrev pub all_there : {X : Type 0} → List (Option X) → Option (List X)
all_there [] = Some []
all_there (None ∷ xs) = None
all_there (Some x ∷ xs) = option_map (λ ys. x ∷ ys) (all_there xs)

-- row number i of w bytes each
abbrev pub row : ℕ → List ℕ → ℕ → List ℕ
row w bytes i = take w (drop (i * w) bytes)

-- ---- variables that aren't loaded

abbrev pub var_shape : CdfFile → CdfVar → List ℕ
var_shape f v = shape_of f.dims f.numrecs v.dims

-- floats, a dimension that stands twice, too many dimensions, cells or positions
unfoldable pub is_skipped : CdfFile → CdfVar → Bool
is_skipped f v =
    not (is_whole v.kind) || not (are_different v.dims) || nat_lt most_dimensions (length v.dims)
    || nat_lt most_cells (size (var_shape f v)) || list_any (nat_lt most_cells) (var_shape f v)

abbrev pub loaded_in : CdfFile → List CdfVar → List CdfVar
loaded_in f vs = filter (λ v. not (is_skipped f v)) vs

abbrev pub skipped_in : CdfFile → List CdfVar → List (List ℕ)
skipped_in f vs = map (λ (v : CdfVar). v.name) (filter (is_skipped f) vs)

-- ---- indexes: a variable that is named as its first dimension

abbrev pub var_dims : CdfFile → CdfVar → List (List ℕ)
var_dims f v = map (λ i. (dim_at f.dims i).name) v.dims

abbrev pub is_named_as_first : CdfFile → CdfVar → Bool
is_named_as_first f v = elim (var_dims f v) [ [] ↦ false | d ∷ ds ↦ bytes_eq d v.name ]

-- the calendar is named by a text, or isn't named
abbrev pub has_calendar : List Attr → Bool
has_calendar attrs = list_all (λ (a : Attr). not (is_attr (codes "calendar") a) || is_char a.kind) attrs

abbrev pub coded : List Attr → List ℕ → Units → TimeCoding
coded attrs text u = record { units = u; units_text = text; calendar_text = text_attr (codes "calendar") attrs }

-- how the numbers of a variable stand for times: by the text of its units, where it is one of time units in a calendar that is known
unfoldable pub coding_of : List Attr → Option TimeCoding
coding_of attrs =
    elim (text_attr (codes "units") attrs) [
      | None ↦ None
      | Some text ↦ if has_calendar attrs then option_map (coded attrs text) (units_of text (text_attr (codes "calendar") attrs)) else None
    ]

-- times, where each number stands for one
unfoldable pub times_counted : TimeCoding → List ℤ → Option LabelList
times_counted coding ns = option_map (Times coding) (all_there (map (decoded coding.units) ns))

unfoldable pub times_of : List Attr → List ℤ → Option LabelList
times_of attrs ns = elim (coding_of attrs) [ None ↦ None | Some coding ↦ times_counted coding ns ]

-- one dimension: its whole numbers are the labels, or the times for which they stand
abbrev pub numbers_or_times : CdfVar → List ℤ → LabelList
numbers_or_times v ns = unwrap_or (times_of v.attrs ns) (Numbers (cells_kind v.kind) ns)

abbrev pub number_labels : CdfVar → Option LabelList
number_labels v = if is_integer v.kind && length v.dims == 1 then Some (numbers_or_times v (numbers_of v.kind v.raw)) else None

-- two dimensions of type char: its rows are the labels, where each is a text
abbrev pub rows_of : List ℕ → List ℕ → Option (List (List ℕ))
rows_of (n ∷ w ∷ []) raw = all_there (map (λ i. text_in (row w raw i)) (range_with_len 0 n))
rows_of shape raw = None

abbrev pub text_labels : CdfFile → CdfVar → Option LabelList
text_labels f v = if is_char v.kind then option_map Texts (rows_of (var_shape f v) v.raw) else None

abbrev pub or_else : {X : Type 0} → Option X → Option X → Option X
or_else (Some x) y = Some x
or_else None y = y

unfoldable pub labels_in : CdfFile → CdfVar → Option LabelList
labels_in f v = if is_named_as_first f v then or_else (number_labels v) (text_labels f v) else None

unfoldable pub is_index : CdfFile → CdfVar → Bool
is_index f v = is_some (labels_in f v)

-- the attribute `coordinates` is taken out, wherever it stands
abbrev pub unlisted : List Attr → List Attr
unlisted attrs = without_text_attr (codes "coordinates") attrs

-- the units and the calendar of times are theirs, and no attributes
abbrev pub uncoded : LabelList → List Attr → List Attr
uncoded (Times coding ts) attrs = without_text_attr (codes "calendar") (without_text_attr (codes "units") attrs)
uncoded (Numbers kind ns) attrs = attrs
uncoded (Texts ts) attrs = attrs

abbrev pub index_in : CdfFile → CdfVar → Option Labels
index_in f v = option_map (λ l. record { list = l; attrs = uncoded l (unlisted v.attrs) }) (labels_in f v)

-- the index that a loaded variable of this name holds
abbrev pub index_among : CdfFile → List ℕ → List CdfVar → Option Labels
index_among f name vs = elim (find (λ (v : CdfVar). bytes_eq v.name name) (loaded_in f vs)) [ None ↦ None | Some v ↦ index_in f v ]

abbrev pub axis_in : CdfFile → CdfDim → Axis
axis_in f d = record { name = d.name; size = positions f.numrecs d; labels = index_among f d.name f.vars }

-- the axes of a variable
abbrev pub var_axes : CdfFile → CdfVar → List Axis
var_axes f v = map (λ i. axis_in f (dim_at f.dims i)) v.dims

-- ---- cells: fill numbers, and truth values

-- the one number of `_FillValue` and all numbers of `missing_value`
abbrev pub the_one : List ℤ → List ℤ
the_one (n ∷ []) = n ∷ []
the_one ns = []

abbrev pub own_fill : List Attr → List ℤ
own_fill attrs = the_one (attr_numbers (codes "_FillValue") attrs)

abbrev pub fill_numbers : List Attr → List ℤ
fill_numbers attrs = own_fill attrs ++ attr_numbers (codes "missing_value") attrs

-- where masking is asked for, a variable of whole numbers with fill numbers is masked
abbrev pub is_masked : Bool → CdfVar → Bool
is_masked mask v = mask && not (is_char v.kind) && not (length (fill_numbers v.attrs) == 0)

abbrev pub cells_in : Bool → CdfVar → List (Option ℤ)
cells_in mask v = stored_cells v.kind v.raw (if is_masked mask v then fill_numbers v.attrs else [])

-- a byte variable whose `dtype` says bool holds truth values: what isn't 0 is true
abbrev pub is_bool : CdfVar → Bool
is_bool v = is_byte v.kind && attr_says (codes "dtype") (codes "bool") v.attrs

abbrev pub truth : ℤ → ℤ
truth (pos n) = if n == 0 then pos 0 else pos 1
truth (negsuc n) = pos 1

abbrev pub variable_as_stored : CdfFile → Bool → CdfVar → Variable
variable_as_stored f mask v =
    record {
      name = v.name;
      dims = var_dims f v;
      kind = cells_kind v.kind;
      masked = is_masked mask v;
      attrs = unlisted v.attrs;
      cells = cells_in mask v;
    }

abbrev pub as_truths : Variable → Variable
as_truths x = record x { kind = kinds.Bool; attrs = without_text_attr (codes "dtype") x.attrs; cells = map (λ c. option_map truth c) x.cells }

abbrev pub variable_of : CdfFile → Bool → CdfVar → Variable
variable_of f mask v = if is_bool v then as_truths (variable_as_stored f mask v) else variable_as_stored f mask v

-- ---- coordinates that are no index

-- the names that `coordinates` of a variable or of the file lists
abbrev pub listed_in : List Attr → List (List ℕ)
listed_in attrs = elim (text_attr (codes "coordinates") attrs) [ None ↦ [] | Some text ↦ words text ]

abbrev pub coordinate_names : CdfFile → List (List ℕ)
coordinate_names f = flat_map (λ (v : CdfVar). listed_in v.attrs) f.vars ++ listed_in f.attrs

-- a variable that is listed, unless a dimension has its name
unfoldable pub is_coordinate : CdfFile → CdfVar → Bool
is_coordinate f v = among (coordinate_names f) v.name && not (among (map (λ (d : CdfDim). d.name) f.dims) v.name)

-- a char coordinate over one dimension that is named `string` and its size is one text
abbrev pub string_name : ℕ → List ℕ
string_name n = codes "string" ++ decimal n

abbrev pub is_over_string : List (List ℕ) → List ℕ → Bool
is_over_string (d ∷ []) (n ∷ []) = bytes_eq d (string_name n)
is_over_string dims shape = false

abbrev pub scalar_text : CdfFile → CdfVar → Option (List ℕ)
scalar_text f v = if is_char v.kind && is_over_string (var_dims f v) (var_shape f v) then text_in v.raw else None

abbrev pub coordinate_over : List Axis → Variable → Coord
coordinate_over axes x =
    record { name = x.name; axes = axes; attrs = x.attrs; content = contents.Cells (record { kind = x.kind; shape = shape_over axes; cells = x.cells }) x.masked }

abbrev pub coordinate_of : CdfFile → Bool → CdfVar → Coord
coordinate_of f mask v =
    elim (scalar_text f v) [
      | Some text ↦ record { name = v.name; axes = []; attrs = unlisted v.attrs; content = contents.Text text }
      | None ↦ coordinate_over (var_axes f v) (variable_of f mask v)
    ]

-- ---- the dataset: each loaded variable is an index, a coordinate or a data variable, in file order

abbrev pub others_in : CdfFile → List CdfVar → List CdfVar
others_in f vs = filter (λ v. not (is_index f v)) (loaded_in f vs)

abbrev pub coordinates_in : CdfFile → Bool → List CdfVar → List Coord
coordinates_in f mask vs = map (coordinate_of f mask) (filter (is_coordinate f) (others_in f vs))

abbrev pub variables_in : CdfFile → Bool → List CdfVar → List Variable
variables_in f mask vs = map (variable_of f mask) (filter (λ v. not (is_coordinate f v)) (others_in f vs))

-- an axis without labels stays where a coordinate or a variable has it
abbrev pub is_kept : List Coord → List Variable → Axis → Bool
is_kept coords vars x =
    is_some x.labels || list_any (λ (c : Coord). among (axis_names c.axes) x.name) coords || list_any (λ (v : Variable). among v.dims x.name) vars

abbrev pub whole_set : CdfFile → List Coord → List Variable → Dataset
whole_set f coords vars =
    record {
      axes = filter (is_kept coords vars) (map (axis_in f) f.dims);
      coords = coords;
      vars = vars;
      attrs = unlisted f.attrs;
      skipped = skipped_in f f.vars;
    }

abbrev pub dataset_in : CdfFile → Bool → Dataset
dataset_in f mask = whole_set f (coordinates_in f mask f.vars) (variables_in f mask f.vars)

-- no more coordinates and data variables than a dataset may have
unfoldable pub check_count : Dataset → Result (Unit {0}) Fault
check_count set = unless (nat_le (length set.coords + length set.vars) most_variables) TooLarge

-- the dataset of a file, with missing cells where it is asked for them
unfoldable pub set_of : CdfFile → Bool → Result Dataset Fault
set_of f mask = check_count (dataset_in f mask) >>= λ u. Ok (dataset_in f mask)

-- the dataset of a file's bytes
unfoldable pub set_in : List ℕ → Bool → Result Dataset Fault
set_in bytes mask = elim (file_in bytes) [ Err x ↦ Err (BadFile x.0 x.1) | Ok f ↦ set_of f mask ]
