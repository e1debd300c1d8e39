-- Cells one by one, under a mask.
use Rattle.std.proofs.Common.{◌≡◌, ◌≢◌, ◌==◌, ◌<◌, ◌≤◌, ◌+◌, ◌*◌, ℕ, ℤ, zero, suc, min, true, false, List, [], ◌∷◌, ◌++◌, map, zip, length, take, drop, get_or, set, Option, Some, None, refl, sym, ap, ◌∙◌, subst, arith}
use Rattle.std.specs.Prelude.{flat_map}
use Rattle.std.proofs.Math.Dec.{eqb-suc-zero}
use Rattle.std.proofs.Math.Seq.{take-add}
use Rattle.std.proofs.lemmas.Bool.{and_parts}
use Rattle.std.proofs.lemmas.List.{get_or-map, get_or-drop, length-map, length-drop, map_more, take_more_set}
use Rattle.std.proofs.lemmas.List.Concat.{flat_map-append}
use Rattle.std.proofs.lemmas.List.Folds.{flat_map-map}
use Rattle.xr_types.specs.declared.attr.NcType.{NcType}
use Rattle.xr_arrays.specs.Arrays.{hidden, cell}
use Rattle.xr_defs.specs.Encoding.{holds, value_bytes}
use Rattle.xr_encode.specs.Rows.{number_or, cells_bytes, are_held}

pub masked_length : {T : Type 0} (number : T → ℤ) (xs : List T) (mask : List ℕ) → length (map cell (zip (map number xs) mask)) ≡ min (length xs) (length mask)
masked_length number [] mask = omega arith
masked_length number (x ∷ xs) [] = omega arith
masked_length number (x ∷ xs) (m ∷ mask) = omega (arith, masked_length number xs mask)

pub seen_there : {T : Type 0} (number : T → ℤ) (xs : List T) (mask : List ℕ) (i : ℕ) (e : T) (n : ℕ) → i < length xs → i < length mask → get_or mask i n ≡ 0 → Some (number (get_or xs i e)) ≡ get_or (hidden (map number xs) (Some mask)) i (Some (number (get_or xs i e)))
seen_there number [] mask i e n h k z = absurd (omega arith)
seen_there number (x ∷ xs) [] i e n h k z = absurd (omega arith)
seen_there number (x ∷ xs) (zero ∷ mask) zero e n h k z = refl
seen_there number (x ∷ xs) (suc m ∷ mask) zero e n h k z = absurd (omega arith)
seen_there number (x ∷ xs) (m ∷ mask) (suc i) e n h k z = seen_there number xs mask i e n (omega arith) (omega arith) z

pub hidden_there : {T : Type 0} (number : T → ℤ) (xs : List T) (mask : List ℕ) (i : ℕ) (n : ℕ) → i < length xs → i < length mask → get_or mask i n ≢ 0 → None ≡ get_or (hidden (map number xs) (Some mask)) i None
hidden_there number [] mask i n h k z = absurd (omega arith)
hidden_there number (x ∷ xs) [] i n h k z = absurd (omega arith)
hidden_there number (x ∷ xs) (zero ∷ mask) zero n h k z = absurd (z refl)
hidden_there number (x ∷ xs) (suc m ∷ mask) zero n h k z = let e : (suc m == 0) ≡ false = eqb-suc-zero m in rw e refl
hidden_there number (x ∷ xs) (m ∷ mask) (suc i) n h k z = hidden_there number xs mask i n (omega arith) (omega arith) z

-- a cell that is read, without a mask and with one
pub read_whole : {T : Type 0} (number : T → ℤ) (xs : List T) (i : ℕ) (e : T) (n : ℤ) → n ≡ number e → e ≡ get_or xs i e → i < length xs → Some n ≡ get_or (map Some (map number xs)) i (Some n)
read_whole number xs i e n is at lt =
    sym (get_or-map Some (map number xs) i n (Some n) (omega (arith, length-map xs number)) ∙ ap Some (get_or-map number xs i e n lt ∙ ap number (sym at) ∙ sym is))

pub read_there : {T : Type 0} (number : T → ℤ) (xs : List T) (mask : List ℕ) (i : ℕ) (e : T) (n : ℤ) (k : ℕ) → n ≡ number e → e ≡ get_or xs i e → i < length (map cell (zip (map number xs) mask)) → get_or mask i k ≡ 0 → Some n ≡ get_or (map cell (zip (map number xs) mask)) i (Some n)
read_there number xs mask i e n k is at lt z =
    let long = masked_length number xs mask in
    subst (λ m. Some m ≡ get_or (map cell (zip (map number xs) mask)) i (Some m)) (ap number (sym at) ∙ sym is) (seen_there number xs mask i e k (omega (arith, lt, long)) (omega (arith, lt, long)) z)

-- ---- a loop over cells

-- an array of a few bytes is one that memory can hold
pub a_few_bytes : (n : ℕ) → n ≤ 8 → n * 1 < 9223372036854775808
a_few_bytes n le = omega arith

pub held_at : (t : NcType) (fill : ℤ) (cells : List (Option ℤ)) (i : ℕ) (c : Option ℤ) → are_held t fill cells ≡ true → i < length cells → c ≡ get_or cells i c → holds t (number_or fill c) ≡ true
held_at t fill (x ∷ cells) zero c held lt is = ap (λ d. holds t (number_or fill d)) is ∙ (and_parts (holds t (number_or fill x)) (are_held t fill cells) held).0
held_at t fill (x ∷ cells) (suc i) c held lt is = held_at t fill cells i c (and_parts (holds t (number_or fill x)) (are_held t fill cells) held).1 (omega arith) is
held_at t fill [] i c held lt is = absurd (omega arith)

-- one more cell of a strip, whose bytes are set behind those that are set
pub strip_more : (f : Option ℤ → List ℕ) (cells : List (Option ℤ)) (strip : List (List ℕ)) (from i : ℕ) (c : Option ℤ) (raw : List ℕ) → from + i < length cells → i < length strip → c ≡ get_or cells (from + i) c → raw ≡ f c
    → take i strip ≡ map f (take i (drop from cells)) → take (i + 1) (set strip i raw) ≡ map f (take (i + 1) (drop from cells))
strip_more f cells strip from i c raw lt room at is so_far =
    take_more_set strip i raw room ∙ ap (λ l. l ++ raw ∷ []) so_far ∙ ap (λ r. map f (take i (drop from cells)) ++ r ∷ []) (is ∙ ap f (at ∙ sym (get_or-drop from cells i c)))
    ∙ sym (map_more f (drop from cells) i c (omega (arith, length-drop from cells)))

-- the bytes of one more strip
pub strips_more : (t : NcType) (fill : ℤ) (cells : List (Option ℤ)) (from n : ℕ) (strip : List (List ℕ)) → take n strip ≡ map (λ c. value_bytes t (number_or fill c)) (take n (drop from cells))
    → cells_bytes t fill (take from cells) ++ flat_map (λ x. x) (take n strip) ≡ cells_bytes t fill (take (from + n) cells)
strips_more t fill cells from n strip is =
    let f : Option ℤ → List ℕ = λ c. value_bytes t (number_or fill c) in
    ap (λ l. flat_map f (take from cells) ++ flat_map (λ x. x) l) is
    ∙ ap (λ l. flat_map f (take from cells) ++ l) (flat_map-map (λ x. x) f (take n (drop from cells)))
    ∙ sym (flat_map-append f (take from cells) (take n (drop from cells)))
    ∙ ap (flat_map f) (sym (take-add from n cells))

-- types of fractions hold no number, and none has bytes
pub no_bytes : (t : NcType) (fill : ℤ) (cells : List (Option ℤ)) → ((n : ℤ) → value_bytes t n ≡ []) → cells_bytes t fill cells ≡ []
no_bytes t fill [] none = refl
no_bytes t fill (c ∷ cells) none = ap (λ l. l ++ cells_bytes t fill cells) (none (number_or fill c)) ∙ no_bytes t fill cells none

-- numbers of a kind with a sign stand for themselves
pub themselves : (ns : List ℤ) → map (λ n. n) ns ≡ ns
themselves [] = refl
themselves (n ∷ ns) = ap (λ l. n ∷ l) (themselves ns)
