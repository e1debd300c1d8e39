-- The date of a day: the one whose day number it is.
use Rattle.std.proofs.Common.{◌≡◌, ℕ, zero, suc, ◌+◌, ◌-◌, ◌<◌, ◌≤◌, Bool, true, false, nat_le, [], ◌++◌, length, refl, sym, subst, ◌∙◌, ap, arith, append-nil, if◌then◌else◌}
use Rattle.std.specs.List.{filter, range_with_len}
use Rattle.std.proofs.lemmas.List.Elements.{filter-append}
use Rattle.std.proofs.lemmas.List.FromFn.{length-range_with_len}
use Rattle.std.proofs.lemmas.Bool.Decides.{nat_tests}
use Rattle.xr_types.specs.declared.axis.Calendar.{Calendar}
use Rattle.xr_types.specs.declared.axis.Calendar.TheVariants.{Civil, NoLeap, Days360}
use Rattle.xr_times.specs.Times.{is_leap, year_days, month_days, days_of_years, days_of_months, IsDate, day_number, year_at, day_in_year, month_at, day_at}
use Rattle.xr_arrays.proofs.LabelPlaces.{filter_none, filter_all, range_with_len-add}

-- how many have begun: those up to the last that has
begun : (f : ℕ → ℕ) (n hi y : ℕ) → ((a b : ℕ) → a ≤ b → f a ≤ f b) → 1 ≤ y → y ≤ hi → f y ≤ n → n < f (y + 1) → length (filter (λ k. nat_le (f k) n) (range_with_len 1 hi)) ≡ y
begun f n hi y mono from to here next =
    let p : ℕ → Bool = λ k. nat_le (f k) n in
    let low : filter p (range_with_len 1 y) ≡ range_with_len 1 y = filter_all p 1 y (λ k a b. let e : f k ≤ f y = mono k y (omega arith) in let g : f k ≤ n = omega arith in grind (arith, nat_tests)) in
    let high : filter p (range_with_len (1 + y) (hi - y)) ≡ [] = filter_none p (1 + y) (hi - y) (λ k a b. let e : f (y + 1) ≤ f k = mono (y + 1) k (omega arith) in let g : n < f k = omega arith in grind (arith, nat_tests)) in
    let whole : hi ≡ y + (hi - y) = omega arith in
    ap length (ap (λ m. filter p (range_with_len 1 m)) whole ∙ ap (filter p) (range_with_len-add 1 y (hi - y)) ∙ filter-append p (range_with_len 1 y) _ ∙ ap (λ l. l ++ filter p (range_with_len (1 + y) (hi - y))) low ∙ ap (λ l. range_with_len 1 y ++ l) high ∙ append-nil _) ∙ length-range_with_len 1 y

pub years_more : (c : Calendar) (y : ℕ) → 1 ≤ y → days_of_years c y ≡ days_of_years c (y - 1) + year_days c y
unfolding days_of_years
years_more c zero h = absurd (omega arith)
years_more c (suc y) h = let e : suc y - 1 ≡ y = omega arith in rw e refl

pub months_more : (c : Calendar) (y m : ℕ) → 1 ≤ m → days_of_months c y m ≡ days_of_months c y (m - 1) + month_days c y m
unfolding days_of_months
months_more c y zero h = absurd (omega arith)
months_more c y (suc m) h = let e : suc m - 1 ≡ m = omega arith in rw e refl

years_add : (c : Calendar) (n k : ℕ) → days_of_years c n ≤ days_of_years c (k + n)
unfolding days_of_years
years_add c n zero = let e : 0 + n ≡ n = omega arith in rw e (omega arith)
years_add c n (suc k) =
    let e : suc k + n ≡ suc (k + n) = omega arith in
    let h : days_of_years c n ≤ days_of_years c (k + n) = years_add c n k in
    rw e (omega arith)

pub years_mono : (c : Calendar) (a b : ℕ) → a ≤ b → days_of_years c a ≤ days_of_years c b
years_mono c a b h = let e : b - a + a ≡ b = omega arith in subst (λ m. days_of_years c a ≤ days_of_years c m) e (years_add c a (b - a))

months_add : (c : Calendar) (y n k : ℕ) → days_of_months c y n ≤ days_of_months c y (k + n)
unfolding days_of_months
months_add c y n zero = let e : 0 + n ≡ n = omega arith in rw e (omega arith)
months_add c y n (suc k) =
    let e : suc k + n ≡ suc (k + n) = omega arith in
    let h : days_of_months c y n ≤ days_of_months c y (k + n) = months_add c y n k in
    rw e (omega arith)

pub months_mono : (c : Calendar) (y a b : ℕ) → a ≤ b → days_of_months c y a ≤ days_of_months c y b
months_mono c y a b h = let e : b - a + a ≡ b = omega arith in subst (λ m. days_of_months c y a ≤ days_of_months c y m) e (months_add c y a (b - a))

-- twelve months make the year
all_months : (leap : Bool) → 0 + 31 + (if leap then 29 else 28) + 31 + 30 + 31 + 30 + 31 + 31 + 30 + 31 + 30 + 31 ≡ (if leap then 366 else 365)
all_months true = refl
all_months false = refl

pub months_all : (c : Calendar) (y : ℕ) → days_of_months c y 12 ≡ year_days c y
unfolding days_of_months
months_all Civil y = all_months (is_leap y)
months_all NoLeap y = refl
months_all Days360 y = refl

pub record Dated (c : Calendar) (y m d n : ℕ) : Type 0 where
  pub year : year_at c n ≡ y
  pub month : month_at c n ≡ m
  pub day : day_at c n ≡ d
  pub rest : day_in_year c n ≡ days_of_months c y (m - 1) + (d - 1)

-- a date ends before its year does
pub in_year : (c : Calendar) (y m d : ℕ) → IsDate c y m d → day_number c y m d < days_of_years c y
in_year c y m d date =
    let a : days_of_years c y ≡ days_of_years c (y - 1) + year_days c y = years_more c y date.year_from in
    let b : days_of_months c y m ≡ days_of_months c y (m - 1) + month_days c y m = months_more c y m date.month_from in
    let e : days_of_months c y m ≤ days_of_months c y 12 = months_mono c y m 12 date.month_to in
    let f : days_of_months c y 12 ≡ year_days c y = months_all c y in
    let g : d ≤ month_days c y m = date.day_to in
    let h : 1 ≤ d = date.day_from in
    omega arith

pub dated : (c : Calendar) (y m d : ℕ) → IsDate c y m d → Dated c y m d (day_number c y m d)
unfolding year_at
dated c y m d date =
    let n : ℕ = day_number c y m d in
    let next : y + 1 - 1 ≡ y = omega arith in
    let year : year_at c n ≡ y = begun (λ k. days_of_years c (k - 1)) n 9999 y (λ a b h. years_mono c (a - 1) (b - 1) (omega arith)) date.year_from date.year_to (omega arith) (subst (λ k. n < days_of_years c k) (sym next) (in_year c y m d date)) in
    let rest : day_in_year c n ≡ days_of_months c y (m - 1) + (d - 1) = ap (λ k. n - days_of_years c (k - 1)) year ∙ omega arith in
    let after : m + 1 - 1 ≡ m = omega arith in
    let b : days_of_months c y m ≡ days_of_months c y (m - 1) + month_days c y m = months_more c y m date.month_from in
    let g : d ≤ month_days c y m = date.day_to in
    let h : 1 ≤ d = date.day_from in
    let month : month_at c n ≡ m =
    ap (λ k. length (filter (λ j. nat_le (days_of_months c k (j - 1)) (day_in_year c n)) (range_with_len 1 12))) year
    ∙ begun (λ k. days_of_months c y (k - 1)) (day_in_year c n) 12 m (λ a b h. months_mono c y (a - 1) (b - 1) (omega arith)) date.month_from date.month_to (omega (arith, rest)) (subst (λ k. day_in_year c n < days_of_months c y k) (sym after) (omega (arith, rest))) in
    record {
      year = year;
      month = month;
      day = ap (λ k. day_in_year c n - days_of_months c k (month_at c n - 1) + 1) year ∙ ap (λ k. day_in_year c n - days_of_months c y (k - 1) + 1) month ∙ omega (arith, rest);
      rest = rest;
    }
