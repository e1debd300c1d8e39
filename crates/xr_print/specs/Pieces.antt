-- Parts of the printed forms, as they are written one after the other.
use Rattle.std.specs.Prelude.{◌≡◌, ◌==◌, ◌/◌, ℕ, ℤ, zero, suc, pos, Bool, true, false, List, [], ◌∷◌, ◌++◌, length, map, take, drop, zip, Option, Some, None, MatchOption, ⊤, codes, if◌then◌else◌}
use Rattle.std.specs.Fmt.{decimal, signed_decimal}
use Rattle.xr_types.specs.declared.axis.LabelList.{LabelList}
use Rattle.xr_types.specs.declared.axis.LabelList.TheVariants.{Numbers, Times, Texts}
use Rattle.xr_types.specs.declared.attr.NcType.{NcType}
use Rattle.xr_types.specs.declared.attr.NcType.TheVariants.{Byte, Char, Short, Int, Float, Double, UByte, UShort, UInt, Int64, UInt64}
use Rattle.xr_types.specs.Kinds.{kind_name}
use Rattle.xr_defs.specs.declared.value.Content.{Content}
use Rattle.xr_defs.specs.declared.value.Content.TheVariants as contents
use Rattle.xr_arrays.specs.declared.typed.Cells.{Cells}
use Rattle.xr_arrays.specs.declared.typed.Cells.TheVariants as kept
use Rattle.xr_arrays.specs.Numbers.{numbers_of}
use Rattle.xr_defs.specs.Printing.{chars_text, dims_text}
use Rattle.xr_defs.specs.Text.{escape, quoted_byte, joined, truth_text, printed_name, masked_text, label_kind, cell_text, quoted}
use Rattle.xr_types.specs.declared.axis.Calendar.{Calendar}
use Rattle.xr_times.specs.Times.{time_text}

-- the first byte of a character of so many bytes, or one with no character at it
abbrev pub first_text : ℕ → ℕ → List ℕ
first_text b zero = escape b
first_text b (suc k) = if k == 0 then quoted_byte b else b ∷ []

-- nothing before the first of all, and else a comma and a blank
abbrev pub between : Bool → List ℕ
between true = []
between false = codes ", "

abbrev pub listed : Bool → List (List ℕ) → List ℕ
listed first [] = []
listed first (t ∷ ts) = between first ++ (t ++ listed false ts)

-- ---- the parts of lines up to their colons

abbrev pub index_head : List ℕ → LabelList → List ℕ
index_head name labels = codes "coord " ++ (printed_name name ++ (32 ∷ (label_kind labels ++ (codes " (" ++ (printed_name name ++ codes "):")))))

abbrev pub coord_head : List ℕ → List ℕ → Bool → List (List ℕ) → List ℕ
coord_head name kind masked dims = codes "coord " ++ (printed_name name ++ (32 ∷ (kind ++ (masked_text masked ++ (32 ∷ (dims_text dims ++ 58 ∷ []))))))

-- ---- labels

-- the text of a time, as one word
unfoldable pub shown_time : Calendar → ℤ → List ℕ
shown_time c t = time_text c t

abbrev pub label_items : LabelList → List (List ℕ)
label_items (Numbers kind ns) = map signed_decimal ns
label_items (Times coding ts) = map (shown_time coding.units.calendar) ts
label_items (Texts ts) = map quoted ts

-- ---- what a coordinate holds

abbrev pub content_kind : Content → List ℕ
content_kind (contents.Cells a masked) = kind_name a.kind
content_kind (contents.Text text) = codes "text"
content_kind (contents.Time coding t) = codes "time"

abbrev pub content_masked : Content → Bool
content_masked (contents.Cells a masked) = masked
content_masked (contents.Text text) = false
content_masked (contents.Time coding t) = false

abbrev pub content_items : Content → List (List ℕ)
content_items (contents.Cells a masked) = map (cell_text a.kind) a.cells
content_items (contents.Text text) = quoted text ∷ []
content_items (contents.Time coding t) = shown_time coding.units.calendar t ∷ []

-- ---- attributes

abbrev pub unread_text : ℕ → List ℕ
unread_text count = decimal count ++ codes " unread"

-- the values that stand in bytes
abbrev pub items_of : NcType → List ℕ → List (List ℕ)
items_of Char raw = chars_text raw ∷ []
items_of Float raw = unread_text (length raw / 4) ∷ []
items_of Double raw = unread_text (length raw / 8) ∷ []
items_of Byte raw = map signed_decimal (numbers_of Byte raw)
items_of Short raw = map signed_decimal (numbers_of Short raw)
items_of Int raw = map signed_decimal (numbers_of Int raw)
items_of UByte raw = map signed_decimal (numbers_of UByte raw)
items_of UShort raw = map signed_decimal (numbers_of UShort raw)
items_of UInt raw = map signed_decimal (numbers_of UInt raw)
items_of Int64 raw = map signed_decimal (numbers_of Int64 raw)
items_of UInt64 raw = map signed_decimal (numbers_of UInt64 raw)

-- ---- cells

-- so many lines of so many texts
abbrev pub lines_text : ℕ → ℕ → List (List ℕ) → List ℕ
lines_text zero n ts = []
lines_text (suc rows) n ts = joined (32 ∷ []) (take n ts) ++ (10 ∷ lines_text rows n (drop n ts))

-- rows of n out of so many texts
abbrev pub grid_text : ℕ → ℕ → List (List ℕ) → List ℕ
grid_text n count ts = lines_text (count / n) n ts

-- the text of a cell, unless its byte in the mask isn't 0
abbrev pub text_unless : {X : Type 0} → (X → List ℕ) → X → ℕ → List ℕ
text_unless f x gap = if gap == 0 then f x else codes "NA"

-- the texts of cells as they are kept, with the mask where there is one
abbrev pub texts_of : {X : Type 0} → (X → List ℕ) → List X → Option (List ℕ) → List (List ℕ)
texts_of f xs None = map f xs
texts_of f xs (Some mask) = map (λ c. text_unless f c.0 c.1) (zip xs mask)

-- a mask has a byte for each of so many cells
abbrev pub IsMaskOf : ℕ → Option (List ℕ) → Type 0
IsMaskOf n mask = MatchOption mask ⊤ (λ m. length m ≡ n)

abbrev pub truth_of : ℕ → List ℕ
truth_of n = truth_text (pos n)

abbrev pub shown : Cells → Option (List ℕ) → List (List ℕ)
shown (kept.Bool v) mask = texts_of truth_of v mask
shown (kept.Char v) mask = texts_of decimal v mask
shown (kept.Int8 v) mask = texts_of signed_decimal v mask
shown (kept.Int16 v) mask = texts_of signed_decimal v mask
shown (kept.Int32 v) mask = texts_of signed_decimal v mask
shown (kept.Int64 v) mask = texts_of signed_decimal v mask
shown (kept.UInt8 v) mask = texts_of decimal v mask
shown (kept.UInt16 v) mask = texts_of decimal v mask
shown (kept.UInt32 v) mask = texts_of decimal v mask
shown (kept.UInt64 v) mask = texts_of decimal v mask
