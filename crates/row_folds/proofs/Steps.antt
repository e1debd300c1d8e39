-- Folds with one more cell.
use Rattle.std.proofs.Common.{◌≡◌, ◌≤◌, ◌^◌, ℕ, ℤ, pos, ◌+ℤ◌, ◌*ℤ◌, ◌≤ℤ◌, int_le, int_lt, Bool, true, false, not, ◌||◌, ◌&&◌, if◌then◌else◌, List, [], ◌∷◌, ◌++◌, length, Option, Some, None, arith, ap, refl, sym, ◌∙◌, length-append}
use Rattle.std.specs.Int.{int_wrap, int_min, int_max, w64}
use Rattle.std.specs.Option.{option_or}
use Rattle.std.proofs.lemmas.Int.{ints, clamps, by_lt_z, int_wrap_fits}
use Rattle.xr_types.specs.declared.kind.DType.TheVariants.{Int64}
use Rattle.xr_types.specs.declared.operation.FoldKind.TheVariants.{Sum, Prod, Min, Max, First, Last, ArgMin, ArgMax, Count, Any, All}
use Rattle.xr_arrays.specs.Folds.{present, of_both, fold_of, truth, is_nonzero}
use Rattle.xr_arrays.proofs.Folds.{kept_place, int_ge, sum-append, prod-append, min-append, max-append, firsts-append, lasts-append, argmin-append, argmax-append, count-append, any-append, all-append, sum_one, prod_one, argmin_one, argmax_one, any_one, all_one}
use Rattle.row_folds.specs.Rows.{shown, or_number, has_some, is_better}

abbrev Cells : Type 0
Cells = List (ℕ × Option ℤ)

-- ---- sums and products

pub sum_more : (before : Cells) (p : ℕ) (c : Option ℤ) (s m n : ℤ) → fold_of Sum Int64 before ≡ Some s → m ≡ int_wrap w64 (or_number (pos 0) c) → n ≡ int_wrap w64 (s +ℤ m) → fold_of Sum Int64 (before ++ (p, c) ∷ []) ≡ Some n
sum_more before p c s m n is is_m is_n =
    sum-append Int64 before ((p, c) ∷ []) ∙ ap (λ f. of_both (λ x y. int_wrap w64 (x +ℤ y)) f (fold_of Sum Int64 ((p, c) ∷ []))) is
    ∙ ap (of_both (λ x y. int_wrap w64 (x +ℤ y)) (Some s)) (one c) ∙ ap Some (ap (λ k. int_wrap w64 (s +ℤ k)) (sym is_m) ∙ sym is_n)
  where
    one : (c : Option ℤ) → fold_of Sum Int64 ((p, c) ∷ []) ≡ Some (int_wrap w64 (or_number (pos 0) c))
    one None = refl
    one (Some x) = sum_one Int64 p x

pub product_more : (before : Cells) (p : ℕ) (c : Option ℤ) (s m n : ℤ) → fold_of Prod Int64 before ≡ Some s → m ≡ int_wrap w64 (or_number (pos 1) c) → n ≡ int_wrap w64 (s *ℤ m) → fold_of Prod Int64 (before ++ (p, c) ∷ []) ≡ Some n
product_more before p c s m n is is_m is_n =
    prod-append Int64 before ((p, c) ∷ []) ∙ ap (λ f. of_both (λ x y. int_wrap w64 (x *ℤ y)) f (fold_of Prod Int64 ((p, c) ∷ []))) is
    ∙ ap (of_both (λ x y. int_wrap w64 (x *ℤ y)) (Some s)) (one c) ∙ ap Some (ap (λ k. int_wrap w64 (s *ℤ k)) (sym is_m) ∙ sym is_n)
  where
    one : (c : Option ℤ) → fold_of Prod Int64 ((p, c) ∷ []) ≡ Some (int_wrap w64 (or_number (pos 1) c))
    one None = refl
    one (Some x) = prod_one Int64 p x

-- ---- counts

pub length-present : (cs : Cells) → length (present cs) ≤ length cs
length-present [] = omega arith
length-present ((p, None) ∷ cs) = omega (arith, length-present cs)
length-present ((p, Some x) ∷ cs) = omega (arith, length-present cs)

pub count_more : (before : Cells) (p : ℕ) (b : Bool) (x s n : ℤ) → (length before ≤ 2 ^ 62 → fold_of Count Int64 before ≡ Some s) → n ≡ int_wrap w64 (s +ℤ truth b) → length (before ++ (p, shown b x) ∷ []) ≤ 2 ^ 62 → fold_of Count Int64 (before ++ (p, shown b x) ∷ []) ≡ Some n
count_more before p b x s n is is_n few =
    let long = length-append before ((p, shown b x) ∷ []) in
    let below : length before ≤ 2 ^ 62 = omega arith in
    let here : Some (pos (length (present before))) ≡ Some s = is below in
    let same : pos (length (present before)) ≡ s = cc in
    let most = length-present before in
    count-append Int64 before ((p, shown b x) ∷ []) ∙ ap (λ f. of_both ◌+ℤ◌ f (fold_of Count Int64 ((p, shown b x) ∷ []))) here
    ∙ ap (of_both ◌+ℤ◌ (Some s)) (one b) ∙ ap Some (sym (is_n ∙ fits b))
  where
    one : (b : Bool) → fold_of Count Int64 ((p, shown b x) ∷ []) ≡ Some (truth b)
    one true = refl
    one false = refl

    fits : (b : Bool) → int_wrap w64 (s +ℤ truth b) ≡ s +ℤ truth b
    fits true =
        let long = length-append before ((p, shown b x) ∷ []) in
        let here : Some (pos (length (present before))) ≡ Some s = is (omega arith) in
        let same : pos (length (present before)) ≡ s = cc in
        let most = length-present before in
        int_wrap_fits w64 (s +ℤ pos 1) (omega (arith, ints))
    fits false =
        let long = length-append before ((p, shown b x) ∷ []) in
        let here : Some (pos (length (present before))) ≡ Some s = is (omega arith) in
        let same : pos (length (present before)) ≡ s = cc in
        let most = length-present before in
        int_wrap_fits w64 (s +ℤ pos 0) (omega (arith, ints))

-- ---- truth values

pub any_more : (before : Cells) (p : ℕ) (b : Bool) (x : ℤ) (s n : Bool) → fold_of Any Int64 before ≡ Some (truth s) → n ≡ (s || (b && is_nonzero x)) → fold_of Any Int64 (before ++ (p, shown b x) ∷ []) ≡ Some (truth n)
any_more before p b x s n is is_n =
    any-append Int64 before ((p, shown b x) ∷ []) ∙ ap (λ f. of_both int_max f (fold_of Any Int64 ((p, shown b x) ∷ []))) is ∙ ap (of_both int_max (Some (truth s))) (one b) ∙ ap Some (both s (b && is_nonzero x) ∙ ap truth (sym is_n))
  where
    one : (b : Bool) → fold_of Any Int64 ((p, shown b x) ∷ []) ≡ Some (truth (b && is_nonzero x))
    one true = any_one Int64 p x
    one false = refl

    both : (s t : Bool) → int_max (truth s) (truth t) ≡ truth (s || t)
    both true true = refl
    both true false = refl
    both false true = refl
    both false false = refl

pub all_more : (before : Cells) (p : ℕ) (b : Bool) (x : ℤ) (s n : Bool) → fold_of All Int64 before ≡ Some (truth s) → n ≡ (s && not (b && not (is_nonzero x))) → fold_of All Int64 (before ++ (p, shown b x) ∷ []) ≡ Some (truth n)
all_more before p b x s n is is_n =
    all-append Int64 before ((p, shown b x) ∷ []) ∙ ap (λ f. of_both int_min f (fold_of All Int64 ((p, shown b x) ∷ []))) is ∙ ap (of_both int_min (Some (truth s))) (one b) ∙ ap Some (both s (not (b && not (is_nonzero x))) ∙ ap truth (sym is_n))
  where
    twice : (t : Bool) → not (not t) ≡ t
    twice true = refl
    twice false = refl

    one : (b : Bool) → fold_of All Int64 ((p, shown b x) ∷ []) ≡ Some (truth (not (b && not (is_nonzero x))))
    one true = all_one Int64 p x ∙ ap (λ t. Some (truth t)) (sym (twice (is_nonzero x)))
    one false = refl

    both : (s t : Bool) → int_min (truth s) (truth t) ≡ truth (s && t)
    both true true = refl
    both true false = refl
    both false true = refl
    both false false = refl

pub some_more : (before : Cells) (p : ℕ) (b : Bool) (x : ℤ) (s n : Bool) → has_some before ≡ s → n ≡ (s || b) → has_some (before ++ (p, shown b x) ∷ []) ≡ n
some_more before p b x s n is is_n = from before ∙ ap (λ t. t || b) is ∙ sym is_n
  where
    from : (cs : Cells) → has_some (cs ++ (p, shown b x) ∷ []) ≡ (has_some cs || b)
    from [] = one b
      where
        one : (b : Bool) → has_some ((p, shown b x) ∷ []) ≡ (false || b)
        one true = refl
        one false = refl
    from ((q, None) ∷ cs) = from cs
    from ((q, Some y) ∷ cs) = refl

-- ---- least and greatest numbers

pub lesser : (x y : ℤ) → int_min x y ≡ (if int_lt y x then y else x)
lesser x y = by_lt_z y x
    (λ lt. let e : int_lt y x ≡ true = grind (arith, ints) in rw e (omega (arith, ints, clamps)))
    (λ le. let e : int_lt y x ≡ false = grind (arith, ints) in rw e (omega (arith, ints, clamps)))

pub greater : (x y : ℤ) → int_max x y ≡ (if int_lt x y then y else x)
greater x y = by_lt_z x y
    (λ lt. let e : int_lt x y ≡ true = grind (arith, ints) in rw e (omega (arith, ints, clamps)))
    (λ le. let e : int_lt x y ≡ false = grind (arith, ints) in rw e (omega (arith, ints, clamps)))

-- the numbers are at most h, so that it stands for no number
pub least_more : (before : Cells) (p : ℕ) (b : Bool) (x s n h : ℤ) → s ≡ or_number h (fold_of Min Int64 before) → x ≤ℤ h → n ≡ (if b && int_lt x s then x else s) → n ≡ or_number h (fold_of Min Int64 (before ++ (p, shown b x) ∷ []))
least_more before p false x s n h is below is_n = is_n ∙ is ∙ ap (or_number h) (sym (min-append Int64 before ((p, None) ∷ []) ∙ alone (fold_of Min Int64 before)))
  where
    alone : (f : Option ℤ) → of_both int_min f None ≡ f
    alone None = refl
    alone (Some y) = refl
least_more before p true x s n h is below is_n = is_n ∙ ap (λ s. if int_lt x s then x else s) is ∙ from (fold_of Min Int64 before) ∙ ap (or_number h) (sym (min-append Int64 before ((p, Some x) ∷ [])))
  where
    from : (f : Option ℤ) → (if int_lt x (or_number h f) then x else or_number h f) ≡ or_number h (of_both int_min f (Some x))
    from None = sym (lesser h x) ∙ omega (arith, ints, clamps)
    from (Some y) = sym (lesser y x)

pub greatest_more : (before : Cells) (p : ℕ) (b : Bool) (x s n h : ℤ) → s ≡ or_number h (fold_of Max Int64 before) → h ≤ℤ x → n ≡ (if b && int_lt s x then x else s) → n ≡ or_number h (fold_of Max Int64 (before ++ (p, shown b x) ∷ []))
greatest_more before p false x s n h is above is_n = is_n ∙ is ∙ ap (or_number h) (sym (max-append Int64 before ((p, None) ∷ []) ∙ alone (fold_of Max Int64 before)))
  where
    alone : (f : Option ℤ) → of_both int_max f None ≡ f
    alone None = refl
    alone (Some y) = refl
greatest_more before p true x s n h is above is_n = is_n ∙ ap (λ s. if int_lt s x then x else s) is ∙ from (fold_of Max Int64 before) ∙ ap (or_number h) (sym (max-append Int64 before ((p, Some x) ∷ [])))
  where
    from : (f : Option ℤ) → (if int_lt (or_number h f) x then x else or_number h f) ≡ or_number h (of_both int_max f (Some x))
    from None = sym (greater h x) ∙ omega (arith, ints, clamps)
    from (Some y) = sym (greater y x)

-- ---- first and last cells

pub first_kept : (before : Cells) (p : ℕ) (b s : Bool) (x y : ℤ) → fold_of First Int64 before ≡ shown s y → s ≡ true → fold_of First Int64 (before ++ (p, shown b x) ∷ []) ≡ shown s y
first_kept before p b s x y is there = firsts-append Int64 before ((p, shown b x) ∷ []) ∙ ap (λ f. option_or f (fold_of First Int64 ((p, shown b x) ∷ []))) (is ∙ ap (λ t. shown t y) there) ∙ ap (λ t. shown t y) (sym there)

pub first_taken : (before : Cells) (p : ℕ) (b s : Bool) (x y : ℤ) → fold_of First Int64 before ≡ shown s y → s ≡ false → fold_of First Int64 (before ++ (p, shown b x) ∷ []) ≡ shown b x
first_taken before p b s x y is none = firsts-append Int64 before ((p, shown b x) ∷ []) ∙ ap (λ f. option_or f (fold_of First Int64 ((p, shown b x) ∷ []))) (is ∙ ap (λ t. shown t y) none) ∙ by b
  where
    by : (b : Bool) → fold_of First Int64 ((p, shown b x) ∷ []) ≡ shown b x
    by true = refl
    by false = refl

pub last_kept : (before : Cells) (p : ℕ) (b s : Bool) (x y : ℤ) → fold_of Last Int64 before ≡ shown s y → b ≡ false → fold_of Last Int64 (before ++ (p, shown b x) ∷ []) ≡ shown s y
last_kept before p b s x y is none = ap (λ t. fold_of Last Int64 (before ++ (p, shown t x) ∷ [])) none ∙ lasts-append Int64 before ((p, None) ∷ []) ∙ is

pub last_taken : (before : Cells) (p : ℕ) (b : Bool) (x : ℤ) → b ≡ true → fold_of Last Int64 (before ++ (p, shown b x) ∷ []) ≡ Some x
last_taken before p b x there = ap (λ t. fold_of Last Int64 (before ++ (p, shown t x) ∷ [])) there ∙ lasts-append Int64 before ((p, Some x) ∷ [])

-- ---- least and greatest cells with their positions

-- a cell that isn't taken
pub least_at_kept : (before : Cells) (p : ℕ) (b s : Bool) (x y q : ℤ) → (fold_of Min Int64 before ≡ shown s y) × (fold_of ArgMin Int64 before ≡ shown s q) → is_better b s (int_lt x y) ≡ false
    → (fold_of Min Int64 (before ++ (p, shown b x) ∷ []) ≡ shown s y) × (fold_of ArgMin Int64 (before ++ (p, shown b x) ∷ []) ≡ shown s q)
least_at_kept before p b s x y q is kept = (
  min-append Int64 before ((p, shown b x) ∷ []) ∙ ap (λ f. of_both int_min f (fold_of Min Int64 ((p, shown b x) ∷ []))) is.0 ∙ number b s kept,
  argmin-append Int64 before ((p, shown b x) ∷ []) ∙ (λ k. kept_place int_le (is.0 k) (fold_of Min Int64 ((p, shown b x) ∷ [])) (is.1 k) (fold_of ArgMin Int64 ((p, shown b x) ∷ []))) ∙ place b s kept,
)
  where
    number : (b s : Bool) → is_better b s (int_lt x y) ≡ false → of_both int_min (shown s y) (fold_of Min Int64 ((p, shown b x) ∷ [])) ≡ shown s y
    number true true e = ap Some (lesser y x ∙ ap (λ l. if l then x else y) e)
    number true false e = absurd (let f : true ≡ false = e in cc)
    number false true e = refl
    number false false e = refl

    turned : int_lt x y ≡ false → int_le y x ≡ true
    turned e = grind (arith, ints)

    place : (b s : Bool) → is_better b s (int_lt x y) ≡ false → kept_place int_le (shown s y) (fold_of Min Int64 ((p, shown b x) ∷ [])) (shown s q) (fold_of ArgMin Int64 ((p, shown b x) ∷ [])) ≡ shown s q
    place true true e = ap (λ l. if l then Some q else fold_of ArgMin Int64 ((p, Some x) ∷ [])) (turned e)
    place true false e = absurd (let f : true ≡ false = e in cc)
    place false true e = refl
    place false false e = refl

-- a cell that is less than the others
pub least_at_taken : (before : Cells) (p : ℕ) (b s : Bool) (x y q : ℤ) → (fold_of Min Int64 before ≡ shown s y) × (fold_of ArgMin Int64 before ≡ shown s q) → is_better b s (int_lt x y) ≡ true
    → (fold_of Min Int64 (before ++ (p, shown b x) ∷ []) ≡ Some x) × (fold_of ArgMin Int64 (before ++ (p, shown b x) ∷ []) ≡ Some (pos p))
least_at_taken before p b s x y q is taken = (
  min-append Int64 before ((p, shown b x) ∷ []) ∙ ap (λ f. of_both int_min f (fold_of Min Int64 ((p, shown b x) ∷ []))) is.0 ∙ number b s taken,
  argmin-append Int64 before ((p, shown b x) ∷ []) ∙ (λ k. kept_place int_le (is.0 k) (fold_of Min Int64 ((p, shown b x) ∷ [])) (is.1 k) (fold_of ArgMin Int64 ((p, shown b x) ∷ []))) ∙ place b s taken,
)
  where
    number : (b s : Bool) → is_better b s (int_lt x y) ≡ true → of_both int_min (shown s y) (fold_of Min Int64 ((p, shown b x) ∷ [])) ≡ Some x
    number true true e = ap Some (lesser y x ∙ ap (λ l. if l then x else y) e)
    number true false e = refl
    number false true e = absurd (let f : false ≡ true = e in cc)
    number false false e = absurd (let f : false ≡ true = e in cc)

    turned : int_lt x y ≡ true → int_le y x ≡ false
    turned e = grind (arith, ints)

    place : (b s : Bool) → is_better b s (int_lt x y) ≡ true → kept_place int_le (shown s y) (fold_of Min Int64 ((p, shown b x) ∷ [])) (shown s q) (fold_of ArgMin Int64 ((p, shown b x) ∷ [])) ≡ Some (pos p)
    place true true e = ap (λ l. if l then Some q else fold_of ArgMin Int64 ((p, Some x) ∷ [])) (turned e) ∙ argmin_one Int64 p x
    place true false e = argmin_one Int64 p x
    place false true e = absurd (let f : false ≡ true = e in cc)
    place false false e = absurd (let f : false ≡ true = e in cc)

-- a cell that isn't taken
pub greatest_at_kept : (before : Cells) (p : ℕ) (b s : Bool) (x y q : ℤ) → (fold_of Max Int64 before ≡ shown s y) × (fold_of ArgMax Int64 before ≡ shown s q) → is_better b s (int_lt y x) ≡ false
    → (fold_of Max Int64 (before ++ (p, shown b x) ∷ []) ≡ shown s y) × (fold_of ArgMax Int64 (before ++ (p, shown b x) ∷ []) ≡ shown s q)
greatest_at_kept before p b s x y q is kept = (
  max-append Int64 before ((p, shown b x) ∷ []) ∙ ap (λ f. of_both int_max f (fold_of Max Int64 ((p, shown b x) ∷ []))) is.0 ∙ number b s kept,
  argmax-append Int64 before ((p, shown b x) ∷ []) ∙ (λ k. kept_place int_ge (is.0 k) (fold_of Max Int64 ((p, shown b x) ∷ [])) (is.1 k) (fold_of ArgMax Int64 ((p, shown b x) ∷ []))) ∙ place b s kept,
)
  where
    number : (b s : Bool) → is_better b s (int_lt y x) ≡ false → of_both int_max (shown s y) (fold_of Max Int64 ((p, shown b x) ∷ [])) ≡ shown s y
    number true true e = ap Some (greater y x ∙ ap (λ l. if l then x else y) e)
    number true false e = absurd (let f : true ≡ false = e in cc)
    number false true e = refl
    number false false e = refl

    turned : int_lt y x ≡ false → int_ge y x ≡ true
    turned e = grind (arith, ints)

    place : (b s : Bool) → is_better b s (int_lt y x) ≡ false → kept_place int_ge (shown s y) (fold_of Max Int64 ((p, shown b x) ∷ [])) (shown s q) (fold_of ArgMax Int64 ((p, shown b x) ∷ [])) ≡ shown s q
    place true true e = ap (λ l. if l then Some q else fold_of ArgMax Int64 ((p, Some x) ∷ [])) (turned e)
    place true false e = absurd (let f : true ≡ false = e in cc)
    place false true e = refl
    place false false e = refl

-- a cell that is greater than the others
pub greatest_at_taken : (before : Cells) (p : ℕ) (b s : Bool) (x y q : ℤ) → (fold_of Max Int64 before ≡ shown s y) × (fold_of ArgMax Int64 before ≡ shown s q) → is_better b s (int_lt y x) ≡ true
    → (fold_of Max Int64 (before ++ (p, shown b x) ∷ []) ≡ Some x) × (fold_of ArgMax Int64 (before ++ (p, shown b x) ∷ []) ≡ Some (pos p))
greatest_at_taken before p b s x y q is taken = (
  max-append Int64 before ((p, shown b x) ∷ []) ∙ ap (λ f. of_both int_max f (fold_of Max Int64 ((p, shown b x) ∷ []))) is.0 ∙ number b s taken,
  argmax-append Int64 before ((p, shown b x) ∷ []) ∙ (λ k. kept_place int_ge (is.0 k) (fold_of Max Int64 ((p, shown b x) ∷ [])) (is.1 k) (fold_of ArgMax Int64 ((p, shown b x) ∷ []))) ∙ place b s taken,
)
  where
    number : (b s : Bool) → is_better b s (int_lt y x) ≡ true → of_both int_max (shown s y) (fold_of Max Int64 ((p, shown b x) ∷ [])) ≡ Some x
    number true true e = ap Some (greater y x ∙ ap (λ l. if l then x else y) e)
    number true false e = refl
    number false true e = absurd (let f : false ≡ true = e in cc)
    number false false e = absurd (let f : false ≡ true = e in cc)

    turned : int_lt y x ≡ true → int_ge y x ≡ false
    turned e = grind (arith, ints)

    place : (b s : Bool) → is_better b s (int_lt y x) ≡ true → kept_place int_ge (shown s y) (fold_of Max Int64 ((p, shown b x) ∷ [])) (shown s q) (fold_of ArgMax Int64 ((p, shown b x) ∷ [])) ≡ Some (pos p)
    place true true e = ap (λ l. if l then Some q else fold_of ArgMax Int64 ((p, Some x) ∷ [])) (turned e) ∙ argmax_one Int64 p x
    place true false e = argmax_one Int64 p x
    place false true e = absurd (let f : false ≡ true = e in cc)
    place false false e = absurd (let f : false ≡ true = e in cc)
