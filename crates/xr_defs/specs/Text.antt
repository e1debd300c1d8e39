-- The printed form of an array. Every line ends with a line feed.
use Rattle.std.specs.Prelude.{◌+◌, ◌/◌, ◌%◌, ℕ, zero, suc, ℤ, pos, negsuc, Bool, true, false, ◌||◌, ◌==◌, List, [], ◌∷◌, ◌++◌, length, map, flat_map, take, drop, nat_lt, Option, Some, None, codes, if◌then◌else◌}
use Rattle.std.specs.Fmt.{decimal, signed_decimal}
use Rattle.xr_types.specs.Kinds.{kind_name}
use Rattle.xr_types.specs.declared.axis.Axis.{Axis}
use Rattle.xr_types.specs.declared.axis.LabelList.{LabelList}
use Rattle.xr_types.specs.declared.axis.LabelList.TheVariants.{Numbers, Times, Texts}
use Rattle.xr_types.specs.declared.kind.DType.{DType}
use Rattle.xr_types.specs.declared.kind.DType.TheVariants as kinds
use Rattle.xr_times.specs.Times.{time_text}
use Rattle.xr_types.specs.Names.{shape_over}
use Rattle.xr_defs.specs.Values.{DataArray}

-- ---- names and texts

abbrev pub is_control : ℕ → Bool
is_control b = nat_lt b 32 || b == 127

abbrev pub hex_digit : ℕ → ℕ
hex_digit n = if nat_lt n 10 then 48 + n else 87 + n

-- `\x` and two lower-case hexadecimal digits
abbrev pub escape : ℕ → List ℕ
escape b = 92 ∷ 120 ∷ hex_digit (b / 16) ∷ hex_digit (b % 16) ∷ []

abbrev pub printed_byte : ℕ → List ℕ
printed_byte b = if is_control b then escape b else b ∷ []

-- a name, its control characters escaped
abbrev pub printed_name : List ℕ → List ℕ
printed_name name = flat_map printed_byte name

abbrev pub quoted_byte : ℕ → List ℕ
quoted_byte b = if b == 34 || b == 92 then 92 ∷ b ∷ [] else printed_byte b

-- a text label stands in quotes, with `\` before quotes and `\`
abbrev pub quoted : List ℕ → List ℕ
quoted text = 34 ∷ (flat_map quoted_byte text ++ 34 ∷ [])

-- pieces with a separator between them
abbrev pub joined : List ℕ → List (List ℕ) → List ℕ
joined between [] = []
joined between (x ∷ []) = x
joined between (x ∷ xs) = x ++ (between ++ joined between xs)

-- ---- cells

abbrev pub truth_text : ℤ → List ℕ
truth_text (pos n) = if n == 0 then codes "False" else codes "True"
truth_text (negsuc n) = codes "True"

abbrev pub cell_text : DType → Option ℤ → List ℕ
cell_text t None = codes "NA"
cell_text kinds.Bool (Some n) = truth_text n
cell_text kinds.Char (Some n) = signed_decimal n
cell_text kinds.Int8 (Some n) = signed_decimal n
cell_text kinds.Int16 (Some n) = signed_decimal n
cell_text kinds.Int32 (Some n) = signed_decimal n
cell_text kinds.Int64 (Some n) = signed_decimal n
cell_text kinds.UInt8 (Some n) = signed_decimal n
cell_text kinds.UInt16 (Some n) = signed_decimal n
cell_text kinds.UInt32 (Some n) = signed_decimal n
cell_text kinds.UInt64 (Some n) = signed_decimal n

-- so many rows of so many cells, one blank between cells
abbrev pub rows_text : DType → ℕ → ℕ → List (Option ℤ) → List ℕ
rows_text t zero n cells = []
rows_text t (suc rows) n cells = joined (32 ∷ []) (map (cell_text t) (take n cells)) ++ (10 ∷ rows_text t rows n (drop n cells))

-- the size of the last axis; without axes there is one cell
abbrev pub row_size : List ℕ → ℕ
row_size [] = 1
row_size (n ∷ []) = n
row_size (n ∷ ns) = row_size ns

-- ---- indexes

-- labels as they are printed
abbrev pub label_texts : LabelList → List (List ℕ)
label_texts (Numbers kind ns) = map signed_decimal ns
label_texts (Times coding ts) = map (time_text coding.units.calendar) ts
label_texts (Texts ts) = map quoted ts

abbrev pub label_kind : LabelList → List ℕ
label_kind (Numbers kind ns) = kind_name kind
label_kind (Times coding ts) = codes "time"
label_kind (Texts ts) = codes "text"

-- a blank before each
abbrev pub after_blanks : List (List ℕ) → List ℕ
after_blanks texts = flat_map (λ t. 32 ∷ t) texts

abbrev pub index_line : List ℕ → LabelList → List ℕ
index_line name labels =
    codes "coord " ++ (printed_name name ++ (32 ∷ (label_kind labels ++ (codes " (" ++ (printed_name name ++ (codes "):" ++ (after_blanks (label_texts labels) ++ 10 ∷ [])))))))

abbrev pub index_text : Axis → List ℕ
index_text x = elim x.labels [ None ↦ [] | Some l ↦ index_line x.name l.list ]

-- ---- the array

abbrev pub axis_text : Axis → List ℕ
axis_text x = printed_name x.name ++ (codes ": " ++ decimal x.size)

abbrev pub array_name : Option (List ℕ) → List ℕ
array_name None = codes "-"
array_name (Some name) = printed_name name

abbrev pub masked_text : Bool → List ℕ
masked_text true = codes " masked"
masked_text false = []

abbrev pub head_line : DataArray → List ℕ
head_line a =
    codes "DataArray " ++ (array_name a.name ++ (codes " (" ++ (joined (codes ", ") (map axis_text a.axes) ++ (codes ") " ++ (kind_name a.kind ++ (masked_text a.masked ++ 10 ∷ []))))))

-- a line for each row of the last dimension, in row order
abbrev pub cells_text : DataArray → List ℕ
cells_text a = let n = row_size (shape_over a.axes) in rows_text a.kind (length a.cells / n) n a.cells

-- the first line, the rows, and the indexes in the order of the dimensions
