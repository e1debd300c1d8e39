-- Folds of two lists, one behind the other, from the folds of both.
use Rattle.std.proofs.Common.{◌≡◌, ◌≤◌, ◌^◌, ℕ, ℤ, pos, ◌+ℤ◌, ◌*ℤ◌, ◌≤ℤ◌, int_le, int_lt, Bool, true, false, ◌||◌, ◌&&◌, if◌then◌else◌, List, [], ◌∷◌, ◌++◌, length, Option, Some, None, arith, ap, refl, sym, ◌∙◌, length-append}
use Rattle.std.specs.Int.{int_wrap, int_min, int_max, w64}
use Rattle.std.specs.Option.{option_or}
use Rattle.std.proofs.lemmas.Int.{ints, clamps, int_wrap_fits}
use Rattle.xr_types.specs.declared.kind.DType.TheVariants.{Int64}
use Rattle.xr_types.specs.declared.operation.FoldKind.TheVariants.{Sum, Prod, Min, Max, First, Last, ArgMin, ArgMax, Count, Any, All}
use Rattle.xr_arrays.specs.Folds.{present, of_both, fold_of, truth}
use Rattle.xr_arrays.proofs.Folds.{kept_place, int_ge, sum-append, prod-append, min-append, max-append, firsts-append, lasts-append, argmin-append, argmax-append, count-append, any-append, all-append}
use Rattle.row_folds.specs.Rows.{shown, or_number, has_some, is_better}
use Rattle.row_folds.proofs.Steps.{length-present, lesser, greater}

abbrev Cells : Type 0
Cells = List (ℕ × Option ℤ)

-- ---- sums, products and counts

pub sum_both : (a b : Cells) (s t n : ℤ) → fold_of Sum Int64 a ≡ Some s → fold_of Sum Int64 b ≡ Some t → n ≡ int_wrap w64 (s +ℤ t) → fold_of Sum Int64 (a ++ b) ≡ Some n
sum_both a b s t n is_s is_t is_n = sum-append Int64 a b ∙ (λ k. of_both (λ x y. int_wrap w64 (x +ℤ y)) (is_s k) (is_t k)) ∙ ap Some (sym is_n)

pub product_both : (a b : Cells) (s t n : ℤ) → fold_of Prod Int64 a ≡ Some s → fold_of Prod Int64 b ≡ Some t → n ≡ int_wrap w64 (s *ℤ t) → fold_of Prod Int64 (a ++ b) ≡ Some n
product_both a b s t n is_s is_t is_n = prod-append Int64 a b ∙ (λ k. of_both (λ x y. int_wrap w64 (x *ℤ y)) (is_s k) (is_t k)) ∙ ap Some (sym is_n)

pub count_both : (a b : Cells) (s t n : ℤ) → (length a ≤ 2 ^ 62 → fold_of Count Int64 a ≡ Some s) → (length b ≤ 2 ^ 62 → fold_of Count Int64 b ≡ Some t) → n ≡ int_wrap w64 (s +ℤ t) → length (a ++ b) ≤ 2 ^ 62 → fold_of Count Int64 (a ++ b) ≡ Some n
count_both a b s t n is_s is_t is_n few =
    let long = length-append a b in
    let first : Some (pos (length (present a))) ≡ Some s = is_s (omega arith) in
    let second : Some (pos (length (present b))) ≡ Some t = is_t (omega arith) in
    let same : pos (length (present a)) ≡ s = cc in
    let same_too : pos (length (present b)) ≡ t = cc in
    let most = length-present a in
    let most_too = length-present b in
    let fits : int_wrap w64 (s +ℤ t) ≡ s +ℤ t = int_wrap_fits w64 (s +ℤ t) (omega (arith, ints)) in
    count-append Int64 a b ∙ (λ k. of_both ◌+ℤ◌ (first k) (second k)) ∙ ap Some (sym (is_n ∙ fits))

-- ---- truth values

pub any_both : (a b : Cells) (s t n : Bool) → fold_of Any Int64 a ≡ Some (truth s) → fold_of Any Int64 b ≡ Some (truth t) → n ≡ (s || t) → fold_of Any Int64 (a ++ b) ≡ Some (truth n)
any_both a b s t n is_s is_t is_n = any-append Int64 a b ∙ (λ k. of_both int_max (is_s k) (is_t k)) ∙ ap Some (both s t ∙ ap truth (sym is_n))
  where
    both : (s t : Bool) → int_max (truth s) (truth t) ≡ truth (s || t)
    both true true = refl
    both true false = refl
    both false true = refl
    both false false = refl

pub all_both : (a b : Cells) (s t n : Bool) → fold_of All Int64 a ≡ Some (truth s) → fold_of All Int64 b ≡ Some (truth t) → n ≡ (s && t) → fold_of All Int64 (a ++ b) ≡ Some (truth n)
all_both a b s t n is_s is_t is_n = all-append Int64 a b ∙ (λ k. of_both int_min (is_s k) (is_t k)) ∙ ap Some (both s t ∙ ap truth (sym is_n))
  where
    both : (s t : Bool) → int_min (truth s) (truth t) ≡ truth (s && t)
    both true true = refl
    both true false = refl
    both false true = refl
    both false false = refl

pub some_both : (a b : Cells) (s t n : Bool) → has_some a ≡ s → has_some b ≡ t → n ≡ (s || t) → has_some (a ++ b) ≡ n
some_both a b s t n is_s is_t is_n = from a ∙ (λ k. is_s k || is_t k) ∙ sym is_n
  where
    from : (cs : Cells) → has_some (cs ++ b) ≡ (has_some cs || has_some b)
    from [] = refl
    from ((q, None) ∷ cs) = from cs
    from ((q, Some y) ∷ cs) = refl

-- ---- least and greatest numbers

-- the numbers are at most h, so that it stands for no number
pub least_both : (a b : Cells) (s t n h : ℤ) → s ≡ or_number h (fold_of Min Int64 a) → t ≡ or_number h (fold_of Min Int64 b) → s ≤ℤ h → t ≤ℤ h → n ≡ (if int_lt t s then t else s) → n ≡ or_number h (fold_of Min Int64 (a ++ b))
least_both a b s t n h is_s is_t below_s below_t is_n = is_n ∙ sym (lesser s t) ∙ from (fold_of Min Int64 a) (fold_of Min Int64 b) is_s is_t ∙ ap (or_number h) (sym (min-append Int64 a b))
  where
    from : (f g : Option ℤ) → s ≡ or_number h f → t ≡ or_number h g → int_min s t ≡ or_number h (of_both int_min f g)
    from None None e d = omega (arith, ints, clamps)
    from None (Some y) e d = omega (arith, ints, clamps)
    from (Some x) None e d = omega (arith, ints, clamps)
    from (Some x) (Some y) e d = (λ k. int_min (e k) (d k))

pub greatest_both : (a b : Cells) (s t n h : ℤ) → s ≡ or_number h (fold_of Max Int64 a) → t ≡ or_number h (fold_of Max Int64 b) → h ≤ℤ s → h ≤ℤ t → n ≡ (if int_lt s t then t else s) → n ≡ or_number h (fold_of Max Int64 (a ++ b))
greatest_both a b s t n h is_s is_t above_s above_t is_n = is_n ∙ sym (greater s t) ∙ from (fold_of Max Int64 a) (fold_of Max Int64 b) is_s is_t ∙ ap (or_number h) (sym (max-append Int64 a b))
  where
    from : (f g : Option ℤ) → s ≡ or_number h f → t ≡ or_number h g → int_max s t ≡ or_number h (of_both int_max f g)
    from None None e d = omega (arith, ints, clamps)
    from None (Some y) e d = omega (arith, ints, clamps)
    from (Some x) None e d = omega (arith, ints, clamps)
    from (Some x) (Some y) e d = (λ k. int_max (e k) (d k))

-- ---- first and last cells

pub first_both : (a b : Cells) (s t : Bool) (x y : ℤ) → fold_of First Int64 a ≡ shown s x → fold_of First Int64 b ≡ shown t y → s ≡ false → fold_of First Int64 (a ++ b) ≡ shown t y
first_both a b s t x y is_a is_b none = firsts-append Int64 a b ∙ (λ k. option_or ((is_a ∙ ap (λ u. shown u x) none) k) (is_b k))

pub first_before : (a b : Cells) (s : Bool) (x : ℤ) → fold_of First Int64 a ≡ shown s x → s ≡ true → fold_of First Int64 (a ++ b) ≡ shown s x
first_before a b s x is_a there = firsts-append Int64 a b ∙ ap (λ f. option_or f (fold_of First Int64 b)) (is_a ∙ ap (λ u. shown u x) there) ∙ ap (λ u. shown u x) (sym there)

pub last_behind : (a b : Cells) (t : Bool) (y : ℤ) → fold_of Last Int64 b ≡ shown t y → t ≡ true → fold_of Last Int64 (a ++ b) ≡ shown t y
last_behind a b t y is_b there = lasts-append Int64 a b ∙ ap (λ f. option_or f (fold_of Last Int64 a)) (is_b ∙ ap (λ u. shown u y) there) ∙ ap (λ u. shown u y) (sym there)

pub last_both : (a b : Cells) (s t : Bool) (x y : ℤ) → fold_of Last Int64 a ≡ shown s x → fold_of Last Int64 b ≡ shown t y → t ≡ false → fold_of Last Int64 (a ++ b) ≡ shown s x
last_both a b s t x y is_a is_b none = lasts-append Int64 a b ∙ (λ k. option_or ((is_b ∙ ap (λ u. shown u y) none) k) (is_a k))

-- ---- least and greatest cells with their positions

absurd_truth : {X : Type 0} → true ≡ false → X
absurd_truth e = absurd cc

absurd_lie : {X : Type 0} → false ≡ true → X
absurd_lie e = absurd cc

pub least_at_before : (a b : Cells) (s t : Bool) (x y p q : ℤ) → (fold_of Min Int64 a ≡ shown s x) × (fold_of ArgMin Int64 a ≡ shown s p) → (fold_of Min Int64 b ≡ shown t y) × (fold_of ArgMin Int64 b ≡ shown t q) → is_better t s (int_lt y x) ≡ false
    → (fold_of Min Int64 (a ++ b) ≡ shown s x) × (fold_of ArgMin Int64 (a ++ b) ≡ shown s p)
least_at_before a b s t x y p q is_a is_b kept = (
  min-append Int64 a b ∙ (λ k. of_both int_min (is_a.0 k) (is_b.0 k)) ∙ number s t kept,
  argmin-append Int64 a b ∙ (λ k. kept_place int_le (is_a.0 k) (is_b.0 k) (is_a.1 k) (is_b.1 k)) ∙ place s t kept,
)
  where
    number : (s t : Bool) → is_better t s (int_lt y x) ≡ false → of_both int_min (shown s x) (shown t y) ≡ shown s x
    number true true e = ap Some (lesser x y ∙ ap (λ l. if l then y else x) e)
    number true false e = refl
    number false true e = absurd_truth e
    number false false e = refl

    turned : int_lt y x ≡ false → int_le x y ≡ true
    turned e = grind (arith, ints)

    place : (s t : Bool) → is_better t s (int_lt y x) ≡ false → kept_place int_le (shown s x) (shown t y) (shown s p) (shown t q) ≡ shown s p
    place true true e = ap (λ l. if l then Some p else Some q) (turned e)
    place true false e = refl
    place false true e = absurd_truth e
    place false false e = refl

pub least_at_behind : (a b : Cells) (s t : Bool) (x y p q : ℤ) → (fold_of Min Int64 a ≡ shown s x) × (fold_of ArgMin Int64 a ≡ shown s p) → (fold_of Min Int64 b ≡ shown t y) × (fold_of ArgMin Int64 b ≡ shown t q) → is_better t s (int_lt y x) ≡ true
    → (fold_of Min Int64 (a ++ b) ≡ shown t y) × (fold_of ArgMin Int64 (a ++ b) ≡ shown t q)
least_at_behind a b s t x y p q is_a is_b taken = (
  min-append Int64 a b ∙ (λ k. of_both int_min (is_a.0 k) (is_b.0 k)) ∙ number s t taken,
  argmin-append Int64 a b ∙ (λ k. kept_place int_le (is_a.0 k) (is_b.0 k) (is_a.1 k) (is_b.1 k)) ∙ place s t taken,
)
  where
    number : (s t : Bool) → is_better t s (int_lt y x) ≡ true → of_both int_min (shown s x) (shown t y) ≡ shown t y
    number true true e = ap Some (lesser x y ∙ ap (λ l. if l then y else x) e)
    number true false e = absurd_lie e
    number false true e = refl
    number false false e = absurd_lie e

    turned : int_lt y x ≡ true → int_le x y ≡ false
    turned e = grind (arith, ints)

    place : (s t : Bool) → is_better t s (int_lt y x) ≡ true → kept_place int_le (shown s x) (shown t y) (shown s p) (shown t q) ≡ shown t q
    place true true e = ap (λ l. if l then Some p else Some q) (turned e)
    place true false e = absurd_lie e
    place false true e = refl
    place false false e = absurd_lie e

pub greatest_at_before : (a b : Cells) (s t : Bool) (x y p q : ℤ) → (fold_of Max Int64 a ≡ shown s x) × (fold_of ArgMax Int64 a ≡ shown s p) → (fold_of Max Int64 b ≡ shown t y) × (fold_of ArgMax Int64 b ≡ shown t q) → is_better t s (int_lt x y) ≡ false
    → (fold_of Max Int64 (a ++ b) ≡ shown s x) × (fold_of ArgMax Int64 (a ++ b) ≡ shown s p)
greatest_at_before a b s t x y p q is_a is_b kept = (
  max-append Int64 a b ∙ (λ k. of_both int_max (is_a.0 k) (is_b.0 k)) ∙ number s t kept,
  argmax-append Int64 a b ∙ (λ k. kept_place int_ge (is_a.0 k) (is_b.0 k) (is_a.1 k) (is_b.1 k)) ∙ place s t kept,
)
  where
    number : (s t : Bool) → is_better t s (int_lt x y) ≡ false → of_both int_max (shown s x) (shown t y) ≡ shown s x
    number true true e = ap Some (greater x y ∙ ap (λ l. if l then y else x) e)
    number true false e = refl
    number false true e = absurd_truth e
    number false false e = refl

    turned : int_lt x y ≡ false → int_ge x y ≡ true
    turned e = grind (arith, ints)

    place : (s t : Bool) → is_better t s (int_lt x y) ≡ false → kept_place int_ge (shown s x) (shown t y) (shown s p) (shown t q) ≡ shown s p
    place true true e = ap (λ l. if l then Some p else Some q) (turned e)
    place true false e = refl
    place false true e = absurd_truth e
    place false false e = refl

pub greatest_at_behind : (a b : Cells) (s t : Bool) (x y p q : ℤ) → (fold_of Max Int64 a ≡ shown s x) × (fold_of ArgMax Int64 a ≡ shown s p) → (fold_of Max Int64 b ≡ shown t y) × (fold_of ArgMax Int64 b ≡ shown t q) → is_better t s (int_lt x y) ≡ true
    → (fold_of Max Int64 (a ++ b) ≡ shown t y) × (fold_of ArgMax Int64 (a ++ b) ≡ shown t q)
greatest_at_behind a b s t x y p q is_a is_b taken = (
  max-append Int64 a b ∙ (λ k. of_both int_max (is_a.0 k) (is_b.0 k)) ∙ number s t taken,
  argmax-append Int64 a b ∙ (λ k. kept_place int_ge (is_a.0 k) (is_b.0 k) (is_a.1 k) (is_b.1 k)) ∙ place s t taken,
)
  where
    number : (s t : Bool) → is_better t s (int_lt x y) ≡ true → of_both int_max (shown s x) (shown t y) ≡ shown t y
    number true true e = ap Some (greater x y ∙ ap (λ l. if l then y else x) e)
    number true false e = absurd_lie e
    number false true e = refl
    number false false e = absurd_lie e

    turned : int_lt x y ≡ true → int_ge x y ≡ false
    turned e = grind (arith, ints)

    place : (s t : Bool) → is_better t s (int_lt x y) ≡ true → kept_place int_ge (shown s x) (shown t y) (shown s p) (shown t q) ≡ shown t q
    place true true e = ap (λ l. if l then Some p else Some q) (turned e)
    place true false e = absurd_lie e
    place false true e = refl
    place false false e = absurd_lie e
