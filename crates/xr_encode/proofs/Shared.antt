-- Cells as they stand in a file: which are not seen, and that their numbers are written as the bytes that spell them.
use Rattle.std.proofs.Common.{◌≡◌, ◌+◌, ◌*◌, ◌/◌, ◌%◌, ◌<◌, ◌≤◌, ℕ, ℤ, zero, suc, Bool, true, false, not, cond, ◌&&◌, ◌||◌, List, [], ◌∷◌, ◌++◌, length, map, drop, slice_index, Option, Some, None, zero-add, refl, sym, ap, ◌∙◌, inl, inr, arith}
use Rattle.std.specs.List.{flat_map, list_all, list_any, range_with_len}
use Rattle.std.specs.Ordering.{int_eq}
use Rattle.std.specs.Int.{w8, w16, w32, w64, from_be_bytes, to_be_bytes}
use Rattle.std.proofs.Math.Nat.{mul-div_cancel}
use Rattle.std.proofs.lemmas.Bool.{cases_Bool, and_parts}
use Rattle.std.proofs.lemmas.Bool.Decides.{Decides-int_eq}
use Rattle.std.proofs.lemmas.Int.{of_z-to_z}
use Rattle.std.proofs.lemmas.Nat.{be_bytes_2, be_bytes_4, be_bytes_8, mul-le}
use Rattle.std.proofs.lemmas.List.{length-drop, length-take-le}
use Rattle.xr_types.specs.declared.attr.NcType.{NcType}
use Rattle.xr_types.specs.declared.attr.NcType.TheVariants.{Byte, Char, Short, Int, Float, Double, UByte, UShort, UInt, Int64, UInt64}
use Rattle.xr_files.proofs.FormatLaws.{IsBytes, IsBytes-drop, IsBytes-take}
use Rattle.xr_types.specs.Points.{size}
use Rattle.xr_types.specs.Widths.{width}
use Rattle.xr_arrays.specs.Numbers.{is_whole, number_in, value_at}
use Rattle.xr_arrays.specs.Stored.{is_fill, unless_fill, stored_cells, IsStored}
use Rattle.xr_defs.specs.Encoding.{value_bytes}
use Rattle.cdf_writer.proofs.Standing.{pieces}
use Rattle.xr_encode.specs.Rows.{number_or, cells_bytes, is_number}

-- ---- which cells have a number

never : (b : Bool) (n m : ℤ) → int_eq m n ≡ false → is_number n (cond b None (Some m)) ≡ false
never true n m e = refl
never false n m e = e

none_too : (b : Bool) → (not b && false) ≡ false
none_too true = refl
none_too false = refl

unless_hidden : (b : Bool) (n m : ℤ) → (int_eq m n ≡ true → b ≡ true) → (e : int_eq m n ≡ true) → is_number n (cond b None (Some m)) ≡ false
unless_hidden true n m h e = refl
unless_hidden false n m h e = absurd (let k = h e in cc)

one_seen : (n : ℤ) (fills : List ℤ) (m : ℤ) → is_fill fills n ≡ true → is_number n (unless_fill fills m) ≡ false
one_seen n fills m fill =
    elim (cases_Bool (int_eq m n)) [
      | inl e ↦ unless_hidden (is_fill fills m) n m (λ h. ap (is_fill fills) ((Decides-int_eq m n).0 h) ∙ fill) e
      | inr e ↦ never (is_fill fills m) n m e
    ]

-- a number that stands for missing cells is that of no cell
none_seen : (n : ℤ) (fills ns : List ℤ) → is_fill fills n ≡ true → list_any (is_number n) (map (unless_fill fills) ns) ≡ false
none_seen n fills [] fill = refl
none_seen n fills (m ∷ ns) fill = ap (λ b. b || list_any (is_number n) (map (unless_fill fills) ns)) (one_seen n fills m fill) ∙ none_seen n fills ns fill

pub seen_none : (n : ℤ) (fills ns : List ℤ) (cells : List (Option ℤ)) → cells ≡ map (unless_fill fills) ns → is_fill fills n ≡ true → list_any (is_number n) cells ≡ false
seen_none n fills ns cells are fill = ap (list_any (is_number n)) are ∙ none_seen n fills ns fill

-- ---- a value's number is written as the value's bytes

byte_again : (bs : List ℕ) → length bs ≡ 1 → IsBytes bs → slice_index bs 0 % 256 ∷ [] ≡ bs
byte_again [] long are = absurd (omega arith)
byte_again (b ∷ c ∷ bs) long are = absurd (omega arith)
byte_again (b ∷ []) long are = let e : b % 256 ≡ b = omega (arith, are 0) in ap (λ n. n ∷ []) e

value_again : (kind : NcType) (bs : List ℕ) → is_whole kind ≡ true → length bs ≡ width kind → IsBytes bs → value_bytes kind (number_in kind bs) ≡ bs
value_again Byte bs whole long are = ap (λ n. n % 256 ∷ []) (of_z-to_z w8 (slice_index bs 0) (omega (arith, are 0))) ∙ byte_again bs long are
value_again Char bs whole long are = byte_again bs long are
value_again Short bs whole long are =
    let n = from_be_bytes w16 bs in
    ap (to_be_bytes w16) (of_z-to_z w16 n (omega (arith, are 0, are 1))) ∙ be_bytes_2 bs n long are refl
value_again Int bs whole long are =
    let n = from_be_bytes w32 bs in
    ap (to_be_bytes w32) (of_z-to_z w32 n (omega (arith, are 0, are 1, are 2, are 3))) ∙ be_bytes_4 bs n long are refl
value_again Float bs whole long are = absurd cc
value_again Double bs whole long are = absurd cc
value_again UByte bs whole long are = byte_again bs long are
value_again UShort bs whole long are = be_bytes_2 bs (from_be_bytes w16 bs) long are refl
value_again UInt bs whole long are = be_bytes_4 bs (from_be_bytes w32 bs) long are refl
value_again Int64 bs whole long are =
    let n = from_be_bytes w64 bs in
    ap (to_be_bytes w64) (of_z-to_z w64 n (omega (arith, are 0, are 1, are 2, are 3, are 4, are 5, are 6, are 7))) ∙ be_bytes_8 bs n long are refl
value_again UInt64 bs whole long are = be_bytes_8 bs (from_be_bytes w64 bs) long are refl

-- ---- missing cells are written as the number that stands for them

filled_is : (fill n : ℤ) (fills : List ℤ) → list_all (int_eq fill) fills ≡ true → is_fill fills n ≡ true → fill ≡ n
filled_is fill n [] all any = absurd cc
filled_is fill n (f ∷ fills) all any =
    let both = and_parts (int_eq fill f) (list_all (int_eq fill) fills) all in
    elim (cases_Bool (int_eq n f)) [
      | inl e ↦ (Decides-int_eq fill f).0 both.0 ∙ sym ((Decides-int_eq n f).0 e)
      | inr e ↦ filled_is fill n fills both.1 (sym (ap (λ b. b || is_fill fills n) e) ∙ any)
    ]

by_fill : (b : Bool) (fill n : ℤ) → (b ≡ true → fill ≡ n) → number_or fill (cond b None (Some n)) ≡ n
by_fill true fill n h = h refl
by_fill false fill n h = refl

number_again : (fill n : ℤ) (fills : List ℤ) → list_all (int_eq fill) fills ≡ true → number_or fill (unless_fill fills n) ≡ n
number_again fill n fills all = by_fill (is_fill fills n) fill n (filled_is fill n fills all)

-- ---- all values

rows_again : (kind : NcType) (raw : List ℕ) (fill : ℤ) (fills : List ℤ) (from n : ℕ) → is_whole kind ≡ true → (from + n) * width kind ≤ length raw → IsBytes raw → list_all (int_eq fill) fills ≡ true
    → cells_bytes kind fill (map (unless_fill fills) (map (λ i. number_in kind (value_at kind raw i)) (range_with_len from n))) ≡ flat_map (value_at kind raw) (range_with_len from n)
rows_again kind raw fill fills from zero whole long are all = refl
rows_again kind raw fill fills from (suc n) whole long are all =
    let w = width kind in
    let value = value_at kind raw from in
    let within : (from + 1) * w ≤ length raw = omega (arith, mul-le (from + 1) w (from + suc n) w (omega arith) (omega arith), long) in
    let full : length value ≡ w = length-take-le w (drop (from * w) raw) (omega (arith, length-drop (from * w) raw, within)) in
    let here : value_bytes kind (number_or fill (unless_fill fills (number_in kind value))) ≡ value =
    ap (value_bytes kind) (number_again fill (number_in kind value) fills all) ∙ value_again kind value whole full (IsBytes-take w (drop (from * w) raw) (IsBytes-drop (from * w) raw are)) in
    let sum : from + suc n ≡ from + 1 + n = omega arith in
    let rest = rows_again kind raw fill fills (from + 1) n whole (omega (arith, ap (λ k. k * w) sum, long)) are all in
    ap (λ l. l ++ cells_bytes kind fill (map (unless_fill fills) (map (λ i. number_in kind (value_at kind raw i)) (range_with_len (from + 1) n)))) here ∙ ap (λ l. value ++ l) rest

some_width : (kind : NcType) → 0 < width kind
some_width Byte = omega arith
some_width Char = omega arith
some_width Short = omega arith
some_width Int = omega arith
some_width Float = omega arith
some_width Double = omega arith
some_width UByte = omega arith
some_width UShort = omega arith
some_width UInt = omega arith
some_width Int64 = omega arith
some_width UInt64 = omega arith

-- the bytes of a stored array are what its cells are written as, where each number that stands for missing cells is the one that is written for them
pub written_again : (shape : List ℕ) (kind : NcType) (raw : List ℕ) (fill : ℤ) (fills : List ℤ) → IsStored shape kind raw → IsBytes raw → list_all (int_eq fill) fills ≡ true
    → cells_bytes kind fill (stored_cells kind raw fills) ≡ raw
written_again shape kind raw fill fills is are all =
    let w = width kind in
    let count : length raw / w ≡ size shape = ap (λ n. n / w) is.long ∙ mul-div_cancel (size shape) (some_width kind) in
    let long : length raw ≡ (0 + length raw / w) * w = is.long ∙ ap (λ n. n * w) (sym (zero-add (length raw / w) ∙ count)) in
    let start : 0 * w ≡ 0 = omega arith in
    rows_again kind raw fill fills 0 (length raw / w) is.whole (omega (arith, long)) are all ∙ pieces w 0 (length raw / w) raw long ∙ ap (λ k. drop k raw) start
