-- Numbers that stand one after the other in bytes.
use Rattle.std.proofs.Common.{◌≡◌, ◌+◌, ◌*◌, ◌<◌, ℕ, ℤ, pos, List, [], ◌∷◌, length, map, take, drop, get_or, slice_index, zero-add, add-zero, refl, sym, ap, ◌∙◌, arith, ◌≤◌, slice_set, ◌++◌, ◌/◌, suc, zero}
use Rattle.std.specs.List.{range_with_len}
use Rattle.std.proofs.Math.Seq.{take-suc}
use Rattle.std.specs.Int.{w8, from_be_bytes}
use Rattle.std.proofs.lemmas.List.{get_or-take, get_or-drop, take_more_set, take_all, map-append}
use Rattle.std.proofs.lemmas.List.FromFn.{map-range_with_len_more}
use Rattle.xr_types.specs.declared.attr.NcType.{NcType}
use Rattle.xr_types.specs.declared.attr.NcType.TheVariants.{Char}
use Rattle.xr_arrays.specs.Numbers.{number_in, value_at}

-- the first n numbers
abbrev pub numbers_to : NcType → List ℕ → ℕ → List ℤ
numbers_to kind raw n = map (λ i. number_in kind (value_at kind raw i)) (range_with_len 0 n)

byte_of : (raw : List ℕ) (a k n : ℕ) → k < n → slice_index (take n (drop a raw)) k ≡ get_or raw (a + k) 0
byte_of raw a k n lt = get_or-take n (drop a raw) k 0 lt ∙ get_or-drop a raw k 0

pub one_byte : (raw : List ℕ) (i : ℕ) → from_be_bytes w8 (take 1 (drop (i * 1) raw)) ≡ get_or raw i 0
one_byte raw i = let e : i * 1 ≡ i = omega arith in rw (byte_of raw (i * 1) 0 1 (omega arith), add-zero (i * 1), e) refl

-- one more cell, set at the end of those that are set
pub cells_more : {X : Type 0} (number : X → ℤ) (kind : NcType) (raw : List ℕ) (out : List X) (i : ℕ) (x : X) → i < length out → number x ≡ number_in kind (value_at kind raw i) → map number (take i out) ≡ numbers_to kind raw i
    → map number (take (i + 1) (slice_set out i x)) ≡ numbers_to kind raw (i + 1)
cells_more number kind raw out i x lt is so_far =
    ap (map number) (take_more_set out i x lt)
    ∙ map-append number (take i out) (x ∷ [])
    ∙ ap (λ (l : List ℤ). l ++ number x ∷ []) so_far
    ∙ ap (λ (m : ℤ). numbers_to kind raw i ++ m ∷ []) is
    ∙ sym (map-range_with_len_more (λ k. number_in kind (value_at kind raw k)) 0 i i (zero-add i))

chars_to : (raw : List ℕ) (n : ℕ) → n ≤ length raw → map pos (take n raw) ≡ numbers_to Char raw n
chars_to raw zero le = refl
chars_to raw (suc n) le =
    let e : suc n ≡ n + 1 = omega arith in
    ap (map pos) (take-suc raw n 0 (omega arith))
    ∙ map-append pos (take n raw) (get_or raw n 0 ∷ [])
    ∙ ap (λ (l : List ℤ). l ++ pos (get_or raw n 0) ∷ []) (chars_to raw n (omega arith))
    ∙ ap (λ (m : ℤ). numbers_to Char raw n ++ m ∷ []) (sym (ap pos (one_byte raw n)))
    ∙ sym (ap (numbers_to Char raw) e ∙ map-range_with_len_more (λ k. number_in Char (value_at Char raw k)) 0 n n (zero-add n))

pub chars_are : (raw : List ℕ) → map pos raw ≡ numbers_to Char raw (length raw / 1)
chars_are raw =
    let e : length raw ≡ length raw / 1 = omega arith in
    sym (ap (map pos) (take_all (length raw) raw (omega arith))) ∙ chars_to raw (length raw) (omega arith) ∙ ap (numbers_to Char raw) e
