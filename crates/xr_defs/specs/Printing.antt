-- The printed forms of arrays and datasets, with their coordinates and attributes. Every line ends with a line feed.
use Rattle.std.specs.Prelude.{◌/◌, ◌==◌, ◌&&◌, ℕ, zero, suc, List, [], ◌∷◌, ◌++◌, length, map, flat_map, take, Bool, true, false, nat_le, codes, if◌then◌else◌}
use Rattle.std.specs.Fmt.{decimal, signed_decimal}
use Rattle.std.specs.Str.{is_utf8}
use Rattle.std.specs.Ordering.{is_lt, nat_cmp}
use Rattle.std.specs.Cmp.Lexicographic.{slice_cmp}
use Rattle.xr_types.specs.Kinds.{kind_name}
use Rattle.xr_types.specs.declared.attr.Attr.{Attr}
use Rattle.xr_types.specs.declared.attr.NcType.{NcType}
use Rattle.xr_types.specs.declared.attr.NcType.TheVariants.{Byte, Char, Short, Int, Float, Double, UByte, UShort, UInt, Int64, UInt64}
use Rattle.xr_types.specs.declared.axis.Axis.{Axis}
use Rattle.xr_defs.specs.declared.value.Content.{Content}
use Rattle.xr_defs.specs.declared.value.Content.TheVariants.{Cells, Text, Time}
use Rattle.xr_defs.specs.declared.value.Coord.{Coord}
use Rattle.xr_types.specs.Widths.{width}
use Rattle.xr_arrays.specs.Numbers.{is_whole, numbers_of}
use Rattle.xr_times.specs.Times.{time_text}
use Rattle.xr_types.specs.Names.{axis_names}
use Rattle.xr_defs.specs.Values.{DataArray, Dataset, Variable}
use Rattle.xr_defs.specs.Text.{escape, printed_name, quoted, quoted_byte, joined, cell_text, after_blanks, masked_text, axis_text, head_line, cells_text, index_text}

-- ---- names ascending by their bytes

abbrev pub is_below : List ℕ → List ℕ → Bool
is_below a b = is_lt (slice_cmp nat_cmp a b)

abbrev pub put_coord : Coord → List Coord → List Coord
put_coord c [] = c ∷ []
put_coord c (d ∷ ds) = if is_below d.name c.name then d ∷ put_coord c ds else (c ∷ d ∷ ds)

-- coordinates by their names
abbrev pub by_name : List Coord → List Coord
by_name [] = []
by_name (c ∷ cs) = put_coord c (by_name cs)

-- ---- coordinates

abbrev pub dims_text : List (List ℕ) → List ℕ
dims_text names = 40 ∷ (joined (codes ", ") (map printed_name names) ++ 41 ∷ [])

-- `coord NAME KIND (d1, d2):`, and a blank before each cell
abbrev pub coord_line : List ℕ → List ℕ → Bool → List (List ℕ) → List (List ℕ) → List ℕ
coord_line name kind masked dims items =
    codes "coord " ++ (printed_name name ++ (32 ∷ (kind ++ (masked_text masked ++ (32 ∷ (dims_text dims ++ (58 ∷ (after_blanks items ++ 10 ∷ []))))))))

abbrev pub content_line : List ℕ → List (List ℕ) → Content → List ℕ
content_line name dims (Cells a masked) = coord_line name (kind_name a.kind) masked dims (map (cell_text a.kind) a.cells)
content_line name dims (Text text) = coord_line name (codes "text") false dims (quoted text ∷ [])
content_line name dims (Time coding t) = coord_line name (codes "time") false dims (time_text coding.units.calendar t ∷ [])

abbrev pub coord_text : Coord → List ℕ
coord_text c = content_line c.name (axis_names c.axes) c.content

-- the indexes in the order of the dimensions, then the others by name
abbrev pub coords_text : List Axis → List Coord → List ℕ
coords_text axes coords = flat_map index_text axes ++ flat_map coord_text (by_name coords)

-- ---- attributes

-- how many bytes at the front are one character of UTF-8: the fewest that are UTF-8 by themselves, and 0 where none are
abbrev pub is_front : ℕ → List ℕ → Bool
is_front n bytes = nat_le n (length bytes) && is_utf8 (take n bytes)

abbrev pub front_len : List ℕ → ℕ
front_len bytes =
    if is_front 1 bytes then 1 else if is_front 2 bytes then 2 else if is_front 3 bytes then 3 else if is_front 4 bytes then 4 else 0

-- bytes as a quoted text shows them, and one with no character at it as an escape; so many bytes more belong to a character
abbrev pub chars_from : ℕ → List ℕ → List ℕ
chars_from n [] = []
chars_from (suc n) (b ∷ bs) = b ∷ chars_from n bs
chars_from zero (b ∷ bs) =
    elim (front_len (b ∷ bs)) [
      | zero ↦ escape b ++ chars_from 0 bs
      | suc k ↦ (if k == 0 then quoted_byte b else b ∷ []) ++ chars_from k bs
    ]

abbrev pub chars_text : List ℕ → List ℕ
chars_text bytes = 34 ∷ (chars_from 0 bytes ++ 34 ∷ [])

-- the name of a type in a file
abbrev pub type_name : NcType → List ℕ
type_name Byte = codes "byte"
type_name Char = codes "char"
type_name Short = codes "short"
type_name Int = codes "int"
type_name Float = codes "float"
type_name Double = codes "double"
type_name UByte = codes "ubyte"
type_name UShort = codes "ushort"
type_name UInt = codes "uint"
type_name Int64 = codes "int64"
type_name UInt64 = codes "uint64"

abbrev pub is_text_type : NcType → Bool
is_text_type Char = true
is_text_type t = false

-- the values of an attribute; floats are counted and not read
abbrev pub attr_items : Attr → List (List ℕ)
attr_items a =
    if is_text_type a.kind then chars_text a.raw ∷ []
    else if is_whole a.kind then map signed_decimal (numbers_of a.kind a.raw)
    else (decimal (length a.raw / width a.kind) ++ codes " unread") ∷ []

abbrev pub attr_line : Attr → List ℕ
attr_line a = codes "attr " ++ (printed_name a.name ++ (32 ∷ (type_name a.kind ++ (58 ∷ (after_blanks (attr_items a) ++ 10 ∷ [])))))

-- ---- an array

abbrev pub array_text : DataArray → List ℕ
array_text a = head_line a ++ (cells_text a ++ (coords_text a.axes a.coords ++ flat_map attr_line a.attrs))

-- ---- a dataset

abbrev pub dim_line : Axis → List ℕ
dim_line x = codes "dim " ++ (axis_text x ++ 10 ∷ [])

abbrev pub var_line : Variable → List ℕ
var_line v = codes "var " ++ (printed_name v.name ++ (32 ∷ (kind_name v.kind ++ (32 ∷ (dims_text v.dims ++ (masked_text v.masked ++ 10 ∷ []))))))

abbrev pub skipped_line : List ℕ → List ℕ
skipped_line name = codes "skipped " ++ (printed_name name ++ 10 ∷ [])

abbrev pub set_text : Dataset → List ℕ
set_text set =
    codes "Dataset" ++ (10 ∷ (flat_map dim_line set.axes ++ (coords_text set.axes set.coords ++
    (flat_map var_line set.vars ++ (flat_map skipped_line set.skipped ++ flat_map attr_line set.attrs)))))
