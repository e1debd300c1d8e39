-- The positions of a slice, met one after the other.
use Rattle.std.proofs.Common.{◌≡◌, ◌+◌, ◌-◌, ◌%◌, ◌<◌, ◌≤◌, ◌<ℤ◌, ◌≤ℤ◌, ℕ, ℤ, zero, suc, pos, negsuc, Bool, true, false, cond, if◌then◌else◌, List, [], ◌∷◌, ◌++◌, map, Option, Some, refl, sym, ap, ◌∙◌, arith, append-nil, eq-eqb, unsigned_abs}
use Rattle.std.specs.Prelude.{◌&&◌, ◌==◌, nat_lt, nat_le, filter, reverse}
use Rattle.std.specs.List.{range_with_len}
use Rattle.std.proofs.Math.Dec.{eqb-suc-zero}
use Rattle.std.proofs.Math.Nat.{add-mod_right, mod-add-mod, mod-eq_of_lt}
use Rattle.std.proofs.lemmas.Bool.Decides.{nat_tests}
use Rattle.std.proofs.lemmas.Int.{ints}
use Rattle.std.proofs.lemmas.List.{map-append, map-id, reverse-append}
use Rattle.std.proofs.lemmas.List.Elements.{filter-append}
use Rattle.xr_arrays.proofs.LabelPlaces.{filter_none, range_with_len-add}
use Rattle.xr_defs.specs.Slices.{rising_end, falling_end, rising, falling, given, slice_positions}

abbrev is_met : ℕ → ℕ → ℕ → ℕ → Bool
is_met start stop k i = nat_le start i && (nat_lt i stop && ((i - start) % k == 0))

-- the positions below one that a walk meets
abbrev pub met : ℕ → ℕ → ℕ → ℕ → List ℕ
met start stop k at = filter (is_met start stop k) (range_with_len 0 at)

pub more : (t : ℕ → Bool) (m d : ℕ) → filter t (range_with_len 0 (m + d)) ≡ filter t (range_with_len 0 m) ++ filter t (range_with_len m d)
more t m d = let z : 0 + m ≡ m = omega arith in ap (filter t) (range_with_len-add 0 m d ∙ ap (λ a. range_with_len 0 m ++ range_with_len a d) z) ∙ filter-append t (range_with_len 0 m) (range_with_len m d)

-- positions that the test refuses can be passed over
pass : (t : ℕ → Bool) (m n : ℕ) → m ≤ n → ((i : ℕ) → m ≤ i → i < n → t i ≡ false) → filter t (range_with_len 0 n) ≡ filter t (range_with_len 0 m)
pass t m n le h =
    let z : n ≡ m + (n - m) = omega arith in
    ap (λ k. filter t (range_with_len 0 k)) z ∙ more t m (n - m) ∙ ap (λ r. filter t (range_with_len 0 m) ++ r) (filter_none t m (n - m) (λ i from to. h i from (omega arith))) ∙ append-nil _

pub begins : (start stop k : ℕ) → met start stop k start ≡ []
begins start stop k = pass (is_met start stop k) 0 start (omega arith) (λ i from to. grind (arith, nat_tests))

pub ends : (n start stop k at : ℕ) → stop ≤ n → stop ≤ at → met start stop k at ≡ rising n start stop k
ends n start stop k at inside over =
    let t = is_met start stop k in
    pass t stop at over (λ i from to. grind (arith, nat_tests)) ∙ sym (pass t stop n inside (λ i from to. grind (arith, nat_tests)))

rest : (m k r : ℕ) → r < k → m % k ≡ 0 → (m + r) % k ≡ r
rest m k r lt e = let z : m % k + r ≡ r = omega arith in sym (mod-add-mod m k r) ∙ ap (λ x. x % k) z ∙ mod-eq_of_lt lt

pub none : (a k : ℕ) → 0 < k → (a - a) % k ≡ 0
none a k some = let z : a - a ≡ 0 = omega arith in ap (λ x. x % k) z ∙ mod-eq_of_lt some

pub on : (start k at : ℕ) → start ≤ at → (at - start) % k ≡ 0 → (at + k - start) % k ≡ 0
on start k at from e = let z : at + k - start ≡ (at - start) + k = omega arith in ap (λ x. x % k) z ∙ add-mod_right (at - start) k ∙ e

-- a position and the next one, a step on
goes : (start stop k at : ℕ) → 0 < k → start ≤ at → at < stop → (at - start) % k ≡ 0 → met start stop k (at + k) ≡ met start stop k at ++ at ∷ []
goes start stop k at some from below e =
    let t = is_met start stop k in
    let here : t at ≡ true = let z = eq-eqb ((at - start) % k) 0 e in grind (arith, nat_tests) in
    pass t (at + 1) (at + k) (omega arith) (λ i after to.
    let w : i - start ≡ (at - start) + (i - at) = omega arith in
    let r : (i - start) % k ≡ i - at = ap (λ x. x % k) w ∙ rest (at - start) k (i - at) (omega arith) e in
    grind (arith, nat_tests))
    ∙ more t at 1 ∙ ap (λ b. met start stop k at ++ cond b (at ∷ []) []) here

-- ---- a walk back is one on, counted from the last position

abbrev pub turned : ℕ → Bool → ℕ → ℕ
turned n back i = if back then n - suc i else i

one_turned : (n i : ℕ) (b : Bool) → reverse (cond b ((n - suc i) ∷ []) []) ≡ map (turned n true) (cond b (i ∷ []) [])
one_turned n i true = refl
one_turned n i false = refl

turn : (t u : ℕ → Bool) (n m : ℕ) → m ≤ n → ((i : ℕ) → i < m → t (n - suc i) ≡ u i) → reverse (filter t (range_with_len (n - m) m)) ≡ map (turned n true) (filter u (range_with_len 0 m))
turn t u n zero le h = refl
turn t u n (suc m) le h =
    let x = n - suc m in
    let z : x + 1 ≡ n - m = omega arith in
    let y : m + 1 ≡ suc m = omega arith in
    let those = map (turned n true) (filter u (range_with_len 0 m)) in
    ap (λ a. reverse (filter t (x ∷ range_with_len a m))) z ∙ ap reverse (filter-append t (x ∷ []) (range_with_len (n - m) m)) ∙ reverse-append (filter t (x ∷ [])) (filter t (range_with_len (n - m) m))
    ∙ ap (λ r. r ++ reverse (filter t (x ∷ []))) (turn t u n m (omega arith) (λ i lt. h i (omega arith))) ∙ ap (λ b. those ++ reverse (cond b (x ∷ []) [])) (h m (omega arith)) ∙ ap (λ r. those ++ r) (one_turned n m (u m))
    ∙ sym (map-append (turned n true) (filter u (range_with_len 0 m)) (filter u (m ∷ []))) ∙ ap (map (turned n true)) (sym (more u m 1)) ∙ ap (λ a. map (turned n true) (filter u (range_with_len 0 a))) y

pub pushes : (items new : List ℕ) (n start stop k at place : ℕ) (back : Bool) → 0 < k → start ≤ at → at < stop → (at - start) % k ≡ 0 → place ≡ turned n back at → new ≡ items ++ place ∷ [] → items ≡ map (turned n back) (met start stop k at)
    → new ≡ map (turned n back) (met start stop k (at + k))
pushes items new n start stop k at place back some from below e is is_new so_far =
    is_new ∙ ap (λ xs. xs ++ place ∷ []) so_far ∙ ap (λ x. map (turned n back) (met start stop k at) ++ x ∷ []) is ∙ sym (map-append (turned n back) (met start stop k at) (at ∷ [])) ∙ ap (map (turned n back)) (sym (goes start stop k at some from below e))

falls : (n first last k : ℕ) → first ≤ n → last ≤ n → map (turned n true) (rising n first last k) ≡ falling n (n - first) (n - last) k
falls n first last k a b =
    let z : n - n ≡ 0 = omega arith in
    let t : ℕ → Bool = λ i. nat_lt i (n - first) && (nat_le (n - last) i && ((n - first - suc i) % k == 0)) in
    sym (turn t (is_met first last k) n n (omega arith) (λ i lt. let w : n - first - suc (n - suc i) ≡ i - first = omega arith in grind (arith, nat_tests))) ∙ ap (λ x. reverse (filter t (range_with_len x n))) z

pub sliced : (n first last k : ℕ) (start stop : Option ℤ) (s : ℤ) (back : Bool) → (back ≡ true → s <ℤ pos 0) → (back ≡ false → pos 0 ≤ℤ s) → 0 < k → k ≡ unsigned_abs s → first ≤ n → last ≤ n
    → (back ≡ false → first ≡ given 0 (rising_end n) start) → (back ≡ true → n - first ≡ given (n - 0) (falling_end n) start) → (back ≡ false → last ≡ given n (rising_end n) stop) → (back ≡ true → n - last ≡ given (n - n) (falling_end n) stop)
    → map (turned n back) (rising n first last k) ≡ slice_positions n start stop (Some s)
sliced n first last k start stop (pos (suc m)) false up down some abs a b fo fb lo lb =
    map-id (rising n first last k) ∙ ap (rising n first last) abs ∙ ap (λ x. rising n x last (suc m)) (fo refl) ∙ ap (λ x. rising n (given 0 (rising_end n) start) x (suc m)) (lo refl)
    ∙ sym (ap (λ x. cond x [] (rising n (given 0 (rising_end n) start) (given n (rising_end n) stop) (suc m))) (eqb-suc-zero m))
sliced n first last k start stop (negsuc m) true up down some abs a b fo fb lo lb =
    let y : n - 0 ≡ n = omega arith in
    let z : n - n ≡ 0 = omega arith in
    falls n first last k a b ∙ ap (falling n (n - first) (n - last)) abs ∙ ap (λ x. falling n x (n - last) (suc m)) (fb refl ∙ ap (λ x. given x (falling_end n) start) y)
    ∙ ap (λ x. falling n (given n (falling_end n) start) x (suc m)) (lb refl ∙ ap (λ x. given x (falling_end n) stop) z)
sliced n first last k start stop (pos zero) back up down some abs a b fo fb lo lb = absurd (omega arith)
sliced n first last k start stop (pos (suc m)) true up down some abs a b fo fb lo lb = absurd (let lt = up refl in omega (arith, ints))
sliced n first last k start stop (negsuc m) false up down some abs a b fo fb lo lb = absurd (let le = down refl in omega (arith, ints))
