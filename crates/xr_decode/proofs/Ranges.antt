-- The cells of a variable are in the range of its kind.
use Rattle.std.proofs.Common.{◌≡◌, ◌*◌, ◌/◌, ◌<◌, ℕ, ℤ, pos, negsuc, suc, Bool, true, false, cond, List, [], ◌∷◌, length, map, drop, get_or, Option, Some, None, option_map, refl, ap, ◌∙◌, arith}
use Rattle.std.specs.Prelude.{All}
use Rattle.std.specs.List.{range_with_len}
use Rattle.std.specs.Int.{w8, w16, w32, w64, from_be_bytes, cast_signed}
use Rattle.std.proofs.lemmas.Int.{ints}
use Rattle.std.proofs.lemmas.List.{get_or_past}
use Rattle.std.proofs.lemmas.List.Elements.{All-nil, All-cons, All-head, All-tail, All-get_or}
use Rattle.std.proofs.Common.{inl, inr}
use Rattle.std.proofs.lemmas.Bool.{cases_lt}
use Rattle.xr_types.specs.Kinds.{InRange}
use Rattle.xr_types.specs.declared.attr.NcType.{NcType}
use Rattle.xr_types.specs.declared.attr.NcType.TheVariants.{Byte, Char, Short, Int, Float, Double, UByte, UShort, UInt, Int64, UInt64}
use Rattle.xr_types.specs.declared.kind.DType.{DType}
use Rattle.xr_types.specs.declared.kind.DType.TheVariants as kinds
use Rattle.xr_files.proofs.FormatLaws.{IsBytes, IsBytes-take, IsBytes-drop}
use Rattle.xr_files.specs.declared.file.CdfVar.{CdfVar}
use Rattle.xr_files.specs.declared.file.CdfFile.{CdfFile}
use Rattle.xr_arrays.specs.Arrays.{IsArray, IsCell}
use Rattle.xr_types.specs.Widths.{width}
use Rattle.xr_types.specs.Points.{size}
use Rattle.xr_defs.specs.Decoding.{var_shape, variable_of, variable_as_stored, as_truths, is_bool, truth}
use Rattle.xr_arrays.specs.Numbers.{is_whole, cells_kind, number_in, value_at, numbers_of}
use Rattle.xr_arrays.specs.Stored.{is_fill, unless_fill}
use Rattle.stored_cells.proofs.Lengths.{numbers-length}
use Rattle.xr_decode.specs.Cells.{array_in, fills_used}
use Rattle.xr_decode.specs.Readable.{IsReadableVar}
use Rattle.xr_decode.specs.Stored.{AreBytes}

-- ---- one number

pub byte_at : (raw : List ℕ) (i : ℕ) → AreBytes raw → get_or raw i 0 < 256
byte_at raw i all = elim (cases_lt i (length raw)) [ inl lt ↦ All-get_or (λ b. b < 256) raw i 0 lt all | inr le ↦ let none = get_or_past raw i 0 le in omega arith ]

-- the bytes of a value
value_bytes : (kind : NcType) (raw : List ℕ) (i : ℕ) → AreBytes raw → IsBytes (value_at kind raw i)
value_bytes kind raw i all = IsBytes-take (width kind) (drop (i * width kind) raw) (IsBytes-drop (i * width kind) raw (λ j. byte_at raw j all))

below_8 : (bytes : List ℕ) → IsBytes bytes → from_be_bytes w8 bytes < 256
below_8 bytes h = omega (arith, h 0)

below_16 : (bytes : List ℕ) → IsBytes bytes → from_be_bytes w16 bytes < 65536
below_16 bytes h = omega (arith, h 0, h 1)

below_32 : (bytes : List ℕ) → IsBytes bytes → from_be_bytes w32 bytes < 4294967296
below_32 bytes h = omega (arith, h 0, h 1, h 2, h 3)

below_64 : (bytes : List ℕ) → IsBytes bytes → from_be_bytes w64 bytes < 18446744073709551616
below_64 bytes h = omega (arith, h 0, h 1, h 2, h 3, h 4, h 5, h 6, h 7)

signed_8 : (n : ℕ) → n < 256 → InRange kinds.Int8 (cast_signed w8 n)
signed_8 n lt = (omega (arith, ints), omega (arith, ints))

signed_16 : (n : ℕ) → n < 65536 → InRange kinds.Int16 (cast_signed w16 n)
signed_16 n lt = (omega (arith, ints), omega (arith, ints))

signed_32 : (n : ℕ) → n < 4294967296 → InRange kinds.Int32 (cast_signed w32 n)
signed_32 n lt = (omega (arith, ints), omega (arith, ints))

signed_64 : (n : ℕ) → n < 18446744073709551616 → InRange kinds.Int64 (cast_signed w64 n)
signed_64 n lt = (omega (arith, ints), omega (arith, ints))

unsigned_8 : (n : ℕ) → n < 256 → InRange kinds.UInt8 (pos n)
unsigned_8 n lt = (omega (arith, ints), omega (arith, ints))

unsigned_16 : (n : ℕ) → n < 65536 → InRange kinds.UInt16 (pos n)
unsigned_16 n lt = (omega (arith, ints), omega (arith, ints))

unsigned_32 : (n : ℕ) → n < 4294967296 → InRange kinds.UInt32 (pos n)
unsigned_32 n lt = (omega (arith, ints), omega (arith, ints))

unsigned_64 : (n : ℕ) → n < 18446744073709551616 → InRange kinds.UInt64 (pos n)
unsigned_64 n lt = (omega (arith, ints), omega (arith, ints))

number_fits : (kind : NcType) (bytes : List ℕ) → is_whole kind ≡ true → IsBytes bytes → InRange (cells_kind kind) (number_in kind bytes)
number_fits Byte bytes e h = signed_8 (from_be_bytes w8 bytes) (below_8 bytes h)
number_fits Char bytes e h = unsigned_8 (from_be_bytes w8 bytes) (below_8 bytes h)
number_fits Short bytes e h = signed_16 (from_be_bytes w16 bytes) (below_16 bytes h)
number_fits Int bytes e h = signed_32 (from_be_bytes w32 bytes) (below_32 bytes h)
number_fits Float bytes e h = absurd cc
number_fits Double bytes e h = absurd cc
number_fits UByte bytes e h = unsigned_8 (from_be_bytes w8 bytes) (below_8 bytes h)
number_fits UShort bytes e h = unsigned_16 (from_be_bytes w16 bytes) (below_16 bytes h)
number_fits UInt bytes e h = unsigned_32 (from_be_bytes w32 bytes) (below_32 bytes h)
number_fits Int64 bytes e h = signed_64 (from_be_bytes w64 bytes) (below_64 bytes h)
number_fits UInt64 bytes e h = unsigned_64 (from_be_bytes w64 bytes) (below_64 bytes h)

-- ---- all numbers

each_fits : {X : Type 0} (P : X → Type 0) (f : ℕ → X) (is : List ℕ) → ((i : ℕ) → P (f i)) → All P (map f is)
each_fits P f [] h = All-nil P
each_fits P f (i ∷ is) h = All-cons P (f i) (map f is) (h i) (each_fits P f is h)

pub numbers_fit : (kind : NcType) (raw : List ℕ) → is_whole kind ≡ true → AreBytes raw → All (InRange (cells_kind kind)) (numbers_of kind raw)
numbers_fit kind raw e all = each_fits (InRange (cells_kind kind)) (λ i. number_in kind (value_at kind raw i)) (range_with_len 0 (length raw / width kind)) (λ i. number_fits kind (value_at kind raw i) e (value_bytes kind raw i all))

-- ---- cells

seen_fits : (kind : DType) (b : Bool) (n : ℤ) → InRange kind n → IsCell kind (cond b None (Some n))
seen_fits kind true n h = tt
seen_fits kind false n h = h

cells_fit : (kind : DType) (fills ns : List ℤ) → All (InRange kind) ns → All (IsCell kind) (map (unless_fill fills) ns)
cells_fit kind fills [] all = All-nil (IsCell kind)
cells_fit kind fills (n ∷ ns) all =
    All-cons (IsCell kind) (unless_fill fills n) (map (unless_fill fills) ns) (seen_fits kind (is_fill fills n) n (All-head (InRange kind) n ns all)) (cells_fit kind fills ns (All-tail (InRange kind) n ns all))

truth_by : (b : Bool) → InRange kinds.Bool (cond b (pos 0) (pos 1))
truth_by true = (omega (arith, ints), omega (arith, ints))
truth_by false = (omega (arith, ints), omega (arith, ints))

truth_fits : (c : Option ℤ) → IsCell kinds.Bool (option_map truth c)
truth_fits None = tt
truth_fits (Some (pos n)) = truth_by _
truth_fits (Some (negsuc n)) = (omega (arith, ints), omega (arith, ints))

truths_fit : (cs : List (Option ℤ)) → All (IsCell kinds.Bool) (map (λ c. option_map truth c) cs)
truths_fit [] = All-nil (IsCell kinds.Bool)
truths_fit (c ∷ cs) = All-cons (IsCell kinds.Bool) (option_map truth c) (map (λ c. option_map truth c) cs) (truth_fits c) (truths_fit cs)

pub variable_fits : (f : CdfFile) (m : Bool) (v : CdfVar) → is_whole v.kind ≡ true → AreBytes v.raw → All (IsCell (variable_of f m v).kind) (variable_of f m v).cells
variable_fits f m v e bytes = by (is_bool v)
  where
    by : (b : Bool) → let x = cond b (as_truths (variable_as_stored f m v)) (variable_as_stored f m v) in All (IsCell x.kind) x.cells
    by true = truths_fit (variable_as_stored f m v).cells
    by false = cells_fit (cells_kind v.kind) (fills_used m v) (numbers_of v.kind v.raw) (numbers_fit v.kind v.raw e bytes)

-- as many as the shape says
cells-length : (fills ns : List ℤ) → length (map (unless_fill fills) ns) ≡ length ns
cells-length fills [] = refl
cells-length fills (n ∷ ns) = ap suc (cells-length fills ns)

truths-length : (cs : List (Option ℤ)) → length (map (λ c. option_map truth c) cs) ≡ length cs
truths-length [] = refl
truths-length (c ∷ cs) = ap suc (truths-length cs)

pub variable-length : (f : CdfFile) (m : Bool) (v : CdfVar) → length (variable_of f m v).cells ≡ length (numbers_of v.kind v.raw)
variable-length f m v = by (is_bool v)
  where
    by : (b : Bool) → length (cond b (as_truths (variable_as_stored f m v)) (variable_as_stored f m v)).cells ≡ length (numbers_of v.kind v.raw)
    by true = truths-length (variable_as_stored f m v).cells ∙ cells-length (fills_used m v) (numbers_of v.kind v.raw)
    by false = cells-length (fills_used m v) (numbers_of v.kind v.raw)

pub is_array : (f : CdfFile) (m : Bool) (v : CdfVar) → IsReadableVar f v → is_whole v.kind ≡ true → AreBytes v.raw → IsArray (array_in f m v)
is_array f m v r e bytes = record { whole = variable-length f m v ∙ numbers-length v.kind v.raw (size (var_shape f v)) e (r.whole e); range = variable_fits f m v e bytes }
