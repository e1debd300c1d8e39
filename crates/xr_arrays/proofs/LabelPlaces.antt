-- Positions whose labels pass a test, and what tests along a list of labels say of its places.
use Rattle.std.proofs.Common.{◌≡◌, ℕ, zero, suc, ◌+◌, ◌-◌, ◌<◌, ◌≤◌, Bool, true, false, cond, ◌&&◌, ◌||◌, nat_le, nat_lt, List, [], ◌∷◌, ◌++◌, length, Err, refl, ◌∙◌, ap, arith, append-nil}
use Rattle.std.specs.List.{filter, list_any, list_all, range_with_len}
use Rattle.std.proofs.lemmas.List.Elements.{filter-append}
use Rattle.std.proofs.lemmas.Bool.Decides.{nat_tests}
use Rattle.xr_types.specs.declared.axis.Label.{Label}
use Rattle.xr_types.specs.declared.fault.Fault.TheVariants.{NotUnique}
use Rattle.xr_arrays.specs.Labels.{label_at, positions, sole, each_next, repeats, same}

pub filter_none : (p : ℕ → Bool) (a n : ℕ) → ((k : ℕ) → a ≤ k → k < a + n → p k ≡ false) → filter p (range_with_len a n) ≡ []
filter_none p a zero h = refl
filter_none p a (suc n) h =
    let rest : filter p (range_with_len (a + 1) n) ≡ [] = filter_none p (a + 1) n (λ k from to. h k (omega arith) (omega arith)) in
    let here : p a ≡ false = h a (omega arith) (omega arith) in
    ap (λ b. cond b (a ∷ filter p (range_with_len (a + 1) n)) (filter p (range_with_len (a + 1) n))) here ∙ rest

pub filter_all : (p : ℕ → Bool) (a n : ℕ) → ((k : ℕ) → a ≤ k → k < a + n → p k ≡ true) → filter p (range_with_len a n) ≡ range_with_len a n
filter_all p a zero h = refl
filter_all p a (suc n) h =
    let rest : filter p (range_with_len (a + 1) n) ≡ range_with_len (a + 1) n = filter_all p (a + 1) n (λ k from to. h k (omega arith) (omega arith)) in
    let here : p a ≡ true = h a (omega arith) (omega arith) in
    ap (λ b. cond b (a ∷ filter p (range_with_len (a + 1) n)) (filter p (range_with_len (a + 1) n))) here ∙ ap (λ l. a ∷ l) rest

pub range_with_len-add : (a m n : ℕ) → range_with_len a (m + n) ≡ range_with_len a m ++ range_with_len (a + m) n
range_with_len-add a zero n =
    let e : a + 0 ≡ a = omega arith in
    let f : 0 + n ≡ n = omega arith in
    rw (e, f) refl
range_with_len-add a (suc m) n =
    let e : (a + 1) + m ≡ a + suc m = omega arith in
    let f : suc m + n ≡ suc (m + n) = omega arith in
    rw f (ap (λ l. a ∷ l) (range_with_len-add (a + 1) m n ∙ ap (λ b. range_with_len (a + 1) m ++ range_with_len b n) e))

-- the labels that pass stand in a row
pub positions_run : (test : Label → Bool) (xs : List Label) (lo hi : ℕ) → lo ≤ hi → hi ≤ length xs → ((p : ℕ) → p < length xs → test (label_at xs p) ≡ (nat_le lo p && nat_lt p hi)) → positions test xs ≡ range_with_len lo (hi - lo)
positions_run test xs lo hi up within is =
    let p : ℕ → Bool = λ k. test (label_at xs k) in
    let whole : length xs ≡ lo + ((hi - lo) + (length xs - hi)) = omega arith in
    let middle : lo + (hi - lo) ≡ hi = omega arith in
    let low : filter p (range_with_len 0 lo) ≡ [] = filter_none p 0 lo (λ k from to. let h : p k ≡ (nat_le lo k && nat_lt k hi) = is k (omega arith) in grind (arith, nat_tests)) in
    let mid : filter p (range_with_len lo (hi - lo)) ≡ range_with_len lo (hi - lo) = filter_all p lo (hi - lo) (λ k from to. let h : p k ≡ (nat_le lo k && nat_lt k hi) = is k (omega arith) in grind (arith, nat_tests)) in
    let top : filter p (range_with_len hi (length xs - hi)) ≡ [] = filter_none p hi (length xs - hi) (λ k from to. let h : p k ≡ (nat_le lo k && nat_lt k hi) = is k (omega arith) in grind (arith, nat_tests)) in
    let cut : range_with_len 0 (length xs) ≡ range_with_len 0 lo ++ (range_with_len lo (hi - lo) ++ range_with_len hi (length xs - hi)) =
    ap (range_with_len 0) whole ∙ range_with_len-add 0 lo ((hi - lo) + (length xs - hi)) ∙ ap (λ l. range_with_len 0 lo ++ l) (let z : 0 + lo ≡ lo = omega arith in rw z (range_with_len-add lo (hi - lo) (length xs - hi) ∙ ap (λ b. range_with_len lo (hi - lo) ++ range_with_len b (length xs - hi)) middle)) in
    ap (filter p) cut ∙ filter-append p (range_with_len 0 lo) _ ∙ ap (λ l. l ++ filter p (range_with_len lo (hi - lo) ++ range_with_len hi (length xs - hi))) low ∙ filter-append p (range_with_len lo (hi - lo)) _ ∙ ap (λ l. l ++ filter p (range_with_len hi (length xs - hi))) mid ∙ ap (λ l. range_with_len lo (hi - lo) ++ l) top ∙ append-nil _

pub positions_none : (test : Label → Bool) (xs : List Label) → ((p : ℕ) → p < length xs → test (label_at xs p) ≡ false) → positions test xs ≡ []
positions_none test xs h = filter_none (λ k. test (label_at xs k)) 0 (length xs) (λ k from to. h k (omega arith))

-- the numbers before one, this one, and the numbers behind it
filter_split : (p : ℕ → Bool) (a n k : ℕ) → a ≤ k → k < a + n → filter p (range_with_len a n) ≡ filter p (range_with_len a (k - a)) ++ cond (p k) (k ∷ filter p (range_with_len (k + 1) (a + n - (k + 1)))) (filter p (range_with_len (k + 1) (a + n - (k + 1))))
filter_split p a n k from to =
    let whole : n ≡ (k - a) + suc (a + n - (k + 1)) = omega arith in
    let start : a + (k - a) ≡ k = omega arith in
    ap (λ m. filter p (range_with_len a m)) whole ∙ ap (filter p) (range_with_len-add a (k - a) (suc (a + n - (k + 1))) ∙ ap (λ b. range_with_len a (k - a) ++ range_with_len b (suc (a + n - (k + 1)))) start) ∙ filter-append p (range_with_len a (k - a)) _

pub positions_one : (test : Label → Bool) (xs : List Label) (p : ℕ) → p < length xs → test (label_at xs p) ≡ true → ((q : ℕ) → q < p → test (label_at xs q) ≡ false) → ((q : ℕ) → p < q → q < length xs → test (label_at xs q) ≡ false) → positions test xs ≡ p ∷ []
positions_one test xs p within here before behind =
    let t : ℕ → Bool = λ k. test (label_at xs k) in
    let low : filter t (range_with_len 0 (p - 0)) ≡ [] = filter_none t 0 (p - 0) (λ k from to. before k (omega arith)) in
    let top : filter t (range_with_len (p + 1) (0 + length xs - (p + 1))) ≡ [] = filter_none t (p + 1) (0 + length xs - (p + 1)) (λ k from to. behind k (omega arith) (omega arith)) in
    filter_split t 0 (length xs) p (omega arith) (omega arith) ∙ ap (λ l. l ++ cond (t p) (p ∷ filter t (range_with_len (p + 1) (0 + length xs - (p + 1)))) (filter t (range_with_len (p + 1) (0 + length xs - (p + 1))))) low ∙ ap (λ b. cond b (p ∷ filter t (range_with_len (p + 1) (0 + length xs - (p + 1)))) (filter t (range_with_len (p + 1) (0 + length xs - (p + 1))))) here ∙ ap (λ l. p ∷ l) top

sole_two : (before between behind : List ℕ) (p q : ℕ) → sole (before ++ (p ∷ (between ++ (q ∷ behind)))) ≡ Err NotUnique
sole_two [] [] behind p q = refl
sole_two [] (b ∷ between) behind p q = refl
sole_two (a ∷ []) between behind p q = refl
sole_two (a ∷ b ∷ before) between behind p q = refl

pub positions_two : (test : Label → Bool) (xs : List Label) (p q : ℕ) → p < q → q < length xs → test (label_at xs p) ≡ true → test (label_at xs q) ≡ true → sole (positions test xs) ≡ Err NotUnique
positions_two test xs p q up within first second =
    let t : ℕ → Bool = λ k. test (label_at xs k) in
    let n : ℕ = 0 + length xs - (p + 1) in
    let m : ℕ = p + 1 + n - (q + 1) in
    let behind : filter t (range_with_len (p + 1) n) ≡ filter t (range_with_len (p + 1) (q - (p + 1))) ++ (q ∷ filter t (range_with_len (q + 1) m)) =
    filter_split t (p + 1) n q (omega arith) (omega arith) ∙ ap (λ b. filter t (range_with_len (p + 1) (q - (p + 1))) ++ cond b (q ∷ filter t (range_with_len (q + 1) m)) (filter t (range_with_len (q + 1) m))) second in
    let whole : positions test xs ≡ filter t (range_with_len 0 (p - 0)) ++ (p ∷ (filter t (range_with_len (p + 1) (q - (p + 1))) ++ (q ∷ filter t (range_with_len (q + 1) m)))) =
    filter_split t 0 (length xs) p (omega arith) (omega arith) ∙ ap (λ b. filter t (range_with_len 0 (p - 0)) ++ cond b (p ∷ filter t (range_with_len (p + 1) n)) (filter t (range_with_len (p + 1) n))) first ∙ ap (λ l. filter t (range_with_len 0 (p - 0)) ++ (p ∷ l)) behind in
    ap sole whole ∙ sole_two (filter t (range_with_len 0 (p - 0))) (filter t (range_with_len (p + 1) (q - (p + 1)))) (filter t (range_with_len (q + 1) m)) p q

-- ---- tests along the list

pub each_next_holds : (relation : Label → Label → Bool) (xs : List Label) → ((k j : ℕ) → k + 1 ≡ j → j < length xs → relation (label_at xs k) (label_at xs j) ≡ true) → each_next relation xs ≡ true
each_next_holds relation [] h = refl
each_next_holds relation (x ∷ []) h = refl
each_next_holds relation (x ∷ y ∷ rest) h =
    let here : relation x y ≡ true = h 0 1 refl (omega arith) in
    let more : each_next relation (y ∷ rest) ≡ true = each_next_holds relation (y ∷ rest) (λ k j e s. h (suc k) (suc j) (omega arith) (omega arith)) in
    ap (λ b. b && each_next relation (y ∷ rest)) here ∙ more

and_right : (b : Bool) → (b && false) ≡ false
and_right true = refl
and_right false = refl

pub each_next_fails : (relation : Label → Label → Bool) (xs : List Label) (k : ℕ) → suc k < length xs → relation (label_at xs k) (label_at xs (suc k)) ≡ false → each_next relation xs ≡ false
each_next_fails relation [] k s h = absurd (omega arith)
each_next_fails relation (x ∷ []) k s h = absurd (omega arith)
each_next_fails relation (x ∷ y ∷ rest) zero s h = ap (λ b. b && each_next relation (y ∷ rest)) h
each_next_fails relation (x ∷ y ∷ rest) (suc k) s h = ap (λ b. relation x y && b) (each_next_fails relation (y ∷ rest) k (omega arith) h) ∙ and_right (relation x y)

list_any_none : (test : Label → Bool) (xs : List Label) → ((k : ℕ) → k < length xs → test (label_at xs k) ≡ false) → list_any test xs ≡ false
list_any_none test [] h = refl
list_any_none test (x ∷ xs) h = ap (λ b. b || list_any test xs) (h 0 (omega arith)) ∙ list_any_none test xs (λ k s. h (suc k) (omega arith))

or_right : (b : Bool) → (b || true) ≡ true
or_right true = refl
or_right false = refl

list_any_some : (test : Label → Bool) (xs : List Label) (k : ℕ) → k < length xs → test (label_at xs k) ≡ true → list_any test xs ≡ true
list_any_some test [] k s h = absurd (omega arith)
list_any_some test (x ∷ xs) zero s h = ap (λ b. b || list_any test xs) h
list_any_some test (x ∷ xs) (suc k) s h = ap (λ b. test x || b) (list_any_some test xs k (omega arith) h) ∙ or_right (test x)

pub list_all_holds : (test : Label → Bool) (xs : List Label) → ((k : ℕ) → k < length xs → test (label_at xs k) ≡ true) → list_all test xs ≡ true
list_all_holds test [] h = refl
list_all_holds test (x ∷ xs) h = ap (λ b. b && list_all test xs) (h 0 (omega arith)) ∙ list_all_holds test xs (λ k s. h (suc k) (omega arith))

pub list_all_fails : (test : Label → Bool) (xs : List Label) (k : ℕ) → k < length xs → test (label_at xs k) ≡ false → list_all test xs ≡ false
list_all_fails test [] k s h = absurd (omega arith)
list_all_fails test (x ∷ xs) zero s h = ap (λ b. b && list_all test xs) h
list_all_fails test (x ∷ xs) (suc k) s h = ap (λ b. test x && b) (list_all_fails test xs k (omega arith) h) ∙ and_right (test x)

pub repeats_none : (xs : List Label) → ((p q : ℕ) → p < q → q < length xs → same (label_at xs p) (label_at xs q) ≡ false) → repeats xs ≡ false
repeats_none [] h = refl
repeats_none (x ∷ xs) h = ap (λ b. b || repeats xs) (list_any_none (λ y. same x y) xs (λ k s. h 0 (suc k) (omega arith) (omega arith))) ∙ repeats_none xs (λ p q up s. h (suc p) (suc q) (omega arith) (omega arith))

pub repeats_two : (xs : List Label) (p q : ℕ) → p < q → q < length xs → same (label_at xs p) (label_at xs q) ≡ true → repeats xs ≡ true
repeats_two [] p q up s h = absurd (omega arith)
repeats_two (x ∷ xs) zero zero up s h = absurd (omega arith)
repeats_two (x ∷ xs) zero (suc q) up s h = ap (λ b. b || repeats xs) (list_any_some (λ y. same x y) xs q (omega arith) h)
repeats_two (x ∷ xs) (suc p) zero up s h = absurd (omega arith)
repeats_two (x ∷ xs) (suc p) (suc q) up s h = ap (λ b. list_any (λ y. same x y) xs || b) (repeats_two xs p q (omega arith) (omega arith) h) ∙ or_right (list_any (λ y. same x y) xs)

and_left : (a b : Bool) → (a && b) ≡ true → a ≡ true
and_left true b h = refl
and_left false b h = h

and_rest : (a b : Bool) → (a && b) ≡ true → b ≡ true
and_rest true b h = h
and_rest false b h = absurd (cc)

pub each_next_at : (relation : Label → Label → Bool) (xs : List Label) (k : ℕ) → each_next relation xs ≡ true → suc k < length xs → relation (label_at xs k) (label_at xs (suc k)) ≡ true
each_next_at relation [] k h s = absurd (omega arith)
each_next_at relation (x ∷ []) k h s = absurd (omega arith)
each_next_at relation (x ∷ y ∷ rest) zero h s = and_left (relation x y) (each_next relation (y ∷ rest)) h
each_next_at relation (x ∷ y ∷ rest) (suc k) h s = each_next_at relation (y ∷ rest) k (and_rest (relation x y) (each_next relation (y ∷ rest)) h) (omega arith)
