-- Values at places that stop at a bound beyond the file's end.
use Rattle.std.proofs.Common.{◌≡◌, ◌<◌, ◌≤◌, ◌+◌, ◌-◌, ◌*◌, ◌∙◌, sym, ap, ℕ, min, zero, suc, List, [], ◌∷◌, ◌++◌, length, take, drop, refl, arith, inl, inr, length-drop, add-one, zero-add}
use Rattle.std.specs.List.{range_with_len, flat_map}
use Rattle.std.proofs.Math.Nat.{add-zero}
use Rattle.std.proofs.lemmas.List.{nil_from_length, take_all, append-nil}
use Rattle.std.proofs.lemmas.Grind.{flat_map-append}
use Rattle.xr_files.specs.Files.{most_bytes}
use Rattle.cdf_reader.specs.Sizes.{capped}
use Rattle.xr_arrays.specs.Pieces.{pieces}
use Rattle.cdf_reader.proofs.Capped.{ordered, mul_right}

past : (n : ℕ) (bytes : List ℕ) → length bytes ≤ n → drop n bytes ≡ []
past n bytes le = nil_from_length (drop n bytes) (omega (arith, length-drop n bytes))

pub drop_same : (m n : ℕ) (bytes : List ℕ) → length bytes ≤ most_bytes → capped m ≡ capped n → drop m bytes ≡ drop n bytes
drop_same m n bytes short e =
    elim (ordered (suc most_bytes) m) [
      | inl large ↦ past m bytes (omega arith) ∙ sym (past n bytes (omega arith))
      | inr small ↦ let same : m ≡ n = omega arith in ap (λ (k : ℕ). drop k bytes) same
    ]

pub take_capped : (n : ℕ) (bytes : List ℕ) → length bytes ≤ most_bytes → take (capped n) bytes ≡ take n bytes
take_capped n bytes short =
    elim (ordered (suc most_bytes) n) [
      | inl large ↦ take_all (capped n) bytes (omega arith) ∙ sym (take_all n bytes (omega arith))
      | inr small ↦ let same : capped n ≡ n = omega arith in ap (λ (k : ℕ). take k bytes) same
    ]

take_min : (n bound : ℕ) (bytes : List ℕ) → length bytes ≤ bound → take (min n bound) bytes ≡ take n bytes
take_min n bound bytes short =
    elim (ordered bound n) [
      | inl large ↦ take_all (min n bound) bytes (omega arith) ∙ sym (take_all n bytes (omega arith))
      | inr small ↦ let same : min n bound ≡ n = omega arith in ap (λ (k : ℕ). take k bytes) same
    ]

-- bytes from a place on, whose size stops at the bound, are the same bytes
pub values_within : (n begin : ℕ) (bytes : List ℕ) → length bytes < 18446744073709551616 → take (capped n) (drop begin bytes) ≡ take n (drop begin bytes)
values_within n begin bytes short = take_min n 18446744073709551615 (drop begin bytes) (omega (arith, length-drop begin bytes))

drop_min : (n bound : ℕ) (bytes : List ℕ) → length bytes ≤ bound → drop (min bound n) bytes ≡ drop n bytes
drop_min n bound bytes short =
    elim (ordered bound n) [
      | inl large ↦ past (min bound n) bytes (omega arith) ∙ sym (past n bytes (omega arith))
      | inr small ↦ let same : min bound n ≡ n = omega arith in ap (λ (k : ℕ). drop k bytes) same
    ]

-- a range that ends where the bytes end is all that there is
pub front_within : (bytes : List ℕ) (begin n : ℕ)
    → take (min (length bytes - min (length bytes) begin) n) (drop (min (length bytes) begin) bytes) ≡ take n (drop begin bytes)
front_within bytes begin n =
    let start : ℕ = min (length bytes) begin in
    let left : ℕ = length bytes - start in
    let other : min left n ≡ min n left = omega arith in
    ap (λ (k : ℕ). take k (drop start bytes)) other
    ∙ take_min n left (drop start bytes) (omega (arith, length-drop start bytes))
    ∙ ap (take n) (drop_min begin (length bytes) bytes (omega arith))

add_capped : (b x y : ℕ) → capped x ≡ capped y → capped (b + x) ≡ capped (b + y)
add_capped b x y e = omega arith

pub capped_twice : (b x : ℕ) → capped (capped (b + capped x)) ≡ capped (b + x)
capped_twice b x = omega arith

range_more : (a n : ℕ) → range_with_len a (suc n) ≡ range_with_len a n ++ (a + n) ∷ []
range_more a zero = rw add-zero refl
range_more a (suc n) = let e : a + 1 + n ≡ a + suc n = omega arith in ap (λ (l : List ℕ). a ∷ l) (range_more (a + 1) n) ∙ rw e refl

pub pieces_more : (bytes : List ℕ) (begin step n r at : ℕ) → length bytes ≤ most_bytes → at ≡ capped (begin + capped (r * step)) → pieces bytes begin step n (r + 1) ≡ pieces bytes begin step n r ++ take n (drop at bytes)
pieces_more bytes begin step n r at short e =
    let piece : ℕ → List ℕ = λ k. take n (drop (begin + k * step) bytes) in
    let here : drop at bytes ≡ drop (begin + r * step) bytes = drop_same at (begin + r * step) bytes short (ap capped e ∙ capped_twice begin (r * step)) in
    let more : range_with_len 0 (r + 1) ≡ range_with_len 0 r ++ r ∷ [] = rw add-one (range_more 0 r ∙ rw zero-add refl) in
    ap (flat_map piece) more ∙ flat_map-append piece (range_with_len 0 r) (r ∷ []) ∙ ap (λ (l : List ℕ). pieces bytes begin step n r ++ l) (append-nil (piece r) ∙ ap (take n) (sym here))

flat_map_same : {X A : Type 0} (f g : X → List A) → ((x : X) → f x ≡ g x) → (xs : List X) → flat_map f xs ≡ flat_map g xs
flat_map_same f g h [] = refl
flat_map_same f g h (x ∷ xs) = rw (h x, flat_map_same f g h xs) refl

piece_capped : (bytes : List ℕ) (begin step n r : ℕ) → length bytes ≤ most_bytes → take (capped n) (drop (begin + r * capped step) bytes) ≡ take n (drop (begin + r * step) bytes)
piece_capped bytes begin step n r short =
    take_capped n (drop (begin + r * capped step) bytes) (omega (arith, length-drop (begin + r * capped step) bytes))
    ∙ ap (take n) (drop_same (begin + r * capped step) (begin + r * step) bytes short (add_capped begin (r * capped step) (r * step) (mul_right r step 18446744073709551615)))

-- pieces whose step and size stop at the bound are the same pieces
pub pieces_capped : (bytes : List ℕ) (begin step n count : ℕ) → length bytes ≤ most_bytes → pieces bytes begin (capped step) (capped n) count ≡ pieces bytes begin step n count
pieces_capped bytes begin step n count short = flat_map_same _ _ (λ r. piece_capped bytes begin step n r short) (range_with_len 0 count)
