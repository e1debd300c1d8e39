-- Bytes that are put one after the other, as the loops do.
use Rattle.std.proofs.Common.{◌≡◌, ℕ, zero, suc, ◌+◌, ◌-◌, ◌<◌, Bool, true, false, cond, List, [], ◌∷◌, ◌++◌, length, take, get_or, refl, sym, ap, ◌∙◌, append_assoc, arith}
use Rattle.std.proofs.lemmas.List.{append-nil}
use Rattle.std.proofs.lemmas.List.Concat.{flat_map-append}
use Rattle.std.proofs.lemmas.List.Elements.{filter_more}
use Rattle.std.specs.List.{filter, flat_map, range_with_len}

picked : {X : Type 0} (T : X → List ℕ) (b : Bool) (y : X) → flat_map T (cond b (y ∷ []) []) ≡ cond b (T y) []
picked T true y = append-nil (T y)
picked T false y = refl

-- the next item, where it passes the test
pub filter_step : {X : Type 0} (T : X → List ℕ) (p : X → Bool) (xs : List X) (i : ℕ) (x : X) (old out new : List ℕ) → i < length xs → x ≡ get_or xs i x
    → out ≡ old ++ flat_map T (filter p (take i xs)) → new ≡ out ++ cond (p x) (T x) [] → new ≡ old ++ flat_map T (filter p (take (i + 1) xs))
filter_step T p xs i x old out new lt is so_far more =
    let before = filter p (take i xs) in
    let y = get_or xs i x in
    more ∙ ap (λ l. l ++ cond (p x) (T x) []) so_far ∙ append_assoc old (flat_map T before) (cond (p x) (T x) [])
    ∙ ap (λ z. old ++ (flat_map T before ++ cond (p z) (T z) [])) is
    ∙ ap (λ l. old ++ (flat_map T before ++ l)) (sym (picked T (p y) y))
    ∙ ap (λ l. old ++ l) (sym (flat_map-append T before (cond (p y) (y ∷ []) [])))
    ∙ ap (λ l. old ++ flat_map T l) (sym (filter_more p xs i x lt))

take_through : (n : ℕ) (xs ys : List ℕ) → take n (xs ++ ys) ≡ take n xs ++ take (n - length xs) ys
take_through zero xs ys = ap (λ k. take k ys) (let e : 0 ≡ 0 - length xs = omega arith in e)
take_through (suc n) [] ys = ap (λ k. take k ys) (let e : suc n ≡ suc n - 0 = omega arith in e)
take_through (suc n) (x ∷ xs) ys =
    let less : n - length xs ≡ suc n - suc (length xs) = omega arith in
    ap (λ l. x ∷ l) (take_through n xs ys ∙ ap (λ k. take n xs ++ take k ys) less)

-- a fill three times over
pub take_three : (n : ℕ) (fill : List ℕ) → take n (fill ++ (fill ++ fill)) ≡ take n fill ++ (take (n - length fill) fill ++ take (n - length fill - length fill) fill)
take_three n fill = take_through n fill (fill ++ fill) ∙ ap (λ l. take n fill ++ l) (take_through (n - length fill) fill fill)

-- three pieces behind what stands already
pub put_three : (old one two three first second third : List ℕ) → one ≡ old ++ first → two ≡ one ++ second → three ≡ two ++ third → three ≡ old ++ (first ++ (second ++ third))
put_three old one two three first second third a b c = rw (c, b, a) (simp append_assoc)

grows : (a n : ℕ) → range_with_len a (suc n) ≡ range_with_len a n ++ (a + n) ∷ []
grows a zero = ap (λ k. k ∷ []) (let e : a ≡ a + 0 = omega arith in e)
grows a (suc n) = ap (λ l. a ∷ l) (grows (a + 1) n ∙ ap (λ k. range_with_len (a + 1) n ++ k ∷ []) (let e : a + 1 + n ≡ a + suc n = omega arith in e))

-- the next record
pub range_step : (T : ℕ → List ℕ) (i : ℕ) (old out new : List ℕ) → out ≡ old ++ flat_map T (range_with_len 0 i) → new ≡ out ++ T i → new ≡ old ++ flat_map T (range_with_len 0 (i + 1))
range_step T i old out new so_far more =
    let next : range_with_len 0 (suc i) ≡ range_with_len 0 i ++ i ∷ [] = grows 0 i ∙ ap (λ k. range_with_len 0 i ++ k ∷ []) (let e : 0 + i ≡ i = omega arith in e) in
    let one : suc i ≡ i + 1 = omega arith in
    more ∙ ap (λ l. l ++ T i) so_far ∙ append_assoc old (flat_map T (range_with_len 0 i)) (T i)
    ∙ ap (λ l. old ++ (flat_map T (range_with_len 0 i) ++ l)) (sym (append-nil (T i)))
    ∙ ap (λ l. old ++ l) (sym (flat_map-append T (range_with_len 0 i) (i ∷ [])))
    ∙ ap (λ l. old ++ flat_map T l) (sym next)
    ∙ ap (λ k. old ++ flat_map T (range_with_len 0 k)) one
