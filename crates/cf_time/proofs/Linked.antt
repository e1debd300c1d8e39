-- jiff's dates are those of the calendar.
use Rattle.std.proofs.Common.{◌≡◌, ℕ, zero, suc, min, ◌+◌, ◌-◌, ◌*◌, ◌*ℤ◌, ◌<◌, ◌≤◌, ◌<ℤ◌, ℤ, pos, negsuc, ◌+ℤ◌, ◌-ℤ◌, refl, sym, subst, ◌∙◌, ap, arith}
use Rattle.std.proofs.lemmas.Int.{ints}
use Rattle.jiff_core.specs.Calendar.{days_in_year, days_in_month, day_of_year, day_count, days_from_civil, IsCivilDate}
use Rattle.jiff_core.specs.Calendar as civil
use Rattle.jiff_core.proofs.CalendarLemmas.{days_from_civil-day_count, day_count-lt_year}
use Rattle.jiff_core.proofs.MarchLemmas.{days_of_years-march_days}
use Rattle.xr_types.specs.declared.axis.Calendar.{Calendar}
use Rattle.xr_types.specs.declared.axis.Calendar.TheVariants.{Civil}
use Rattle.xr_times.specs.Times.{days_of_years, days_of_months, IsDate, day_number, year_at, month_at, day_at, day_in_year}
use Rattle.xr_times.proofs.Calendar.{Dated, dated}

least : (a b : ℕ) → a ≤ b → min a b ≡ a
least a b h = omega arith

first_year : civil.days_of_years 10001 ≡ 3652791
first_year = omega (arith, days_of_years-march_days 10001)

years : (n : ℕ) → civil.days_of_years (n + 10001) ≡ 3652791 + days_of_years Civil n
unfolding civil.days_of_years days_of_years
years zero = first_year
years (suc n) =
    let e : suc n + 10001 ≡ suc (n + 10001) = omega arith in
    let f : pos (n + 10001) -ℤ pos 10000 ≡ pos (suc n) = omega (arith, ints) in
    let h : civil.days_of_years (n + 10001) ≡ 3652791 + days_of_years Civil n = years n in
    ap civil.days_of_years e ∙ ap (λ y. civil.days_of_years (n + 10001) + days_in_year y) f ∙ omega (arith, h)

months : (y n : ℕ) → civil.days_of_months (pos y) n ≡ days_of_months Civil y n
unfolding civil.days_of_months days_of_months
months y zero = refl
months y (suc n) = ap (λ k. k + days_in_month (pos y) (suc n)) (months y n)

counted : (y m d : ℕ) → 1 ≤ y → 1 ≤ d → day_count (pos y) m d ≡ 3652791 + day_number Civil y m d
unfolding day_count
counted y m d from day =
    let e : y + 10000 ≡ y - 1 + 10001 = omega arith in
    let a : civil.days_of_years (y + 10000) ≡ 3652791 + days_of_years Civil (y - 1) = ap civil.days_of_years e ∙ years (y - 1) in
    let b : civil.days_of_months (pos y) (m - 1) ≡ days_of_months Civil y (m - 1) = months y (m - 1) in
    omega (arith, a, b)

-- a day count of jiff's, and the calendar's day number
pub record Placed (y : ℤ) (m d n : ℕ) : Type 0 where
  pub year : y ≡ pos (year_at Civil n)
  pub month : m ≡ month_at Civil n
  pub day : d ≡ day_at Civil n
  pub ordinal : day_of_year y m d ≡ day_in_year Civil n + 1
  pub number : day_number Civil (year_at Civil n) (month_at Civil n) (day_at Civil n) ≡ n
  pub date : IsDate Civil (year_at Civil n) (month_at Civil n) (day_at Civil n)

day_is : (y : ℤ) (m d n : ℕ) → days_from_civil y m d +ℤ pos 4371587 ≡ pos (n + 3652425) → day_count y m d ≡ n + 3652791
day_is y m d n h = omega (arith, ints, days_from_civil-day_count y m d, h)

ones : 3652791 + day_number Civil 1 1 1 ≡ 3652791
unfolding days_of_years days_of_months
ones = refl

first_day : day_count (pos 1) 1 1 ≡ 3652791
first_day = counted 1 1 1 (omega arith) (omega arith) ∙ ones

too_early : (y : ℤ) (m d n : ℕ) → IsCivilDate y m d → y <ℤ pos 1 → day_count y m d ≡ n + 3652791 → ⊥
too_early y m d n c early h =
    let e : day_count y m d < day_count (pos 1) 1 1 = day_count-lt_year y m d (pos 1) 1 1 c (omega arith) early in
    omega (arith, first_day, e, h)

in_years : (y m d n : ℕ) → 1 ≤ y → IsCivilDate (pos y) m d → n < 3652059 → day_count (pos y) m d ≡ n + 3652791 → Placed (pos y) m d n
in_years y m d n from c most h =
    let at : day_number Civil y m d ≡ n = omega (arith, counted y m d from c.2.0, h) in
    let is : IsDate Civil y m d = record { year_from = from; year_to = omega (arith, ints, c.0.1); month_from = c.1.0; month_to = c.1.1; day_from = c.2.0; day_to = c.2.1 } in
    let t : Dated Civil y m d n = subst (Dated Civil y m d) at (dated Civil y m d is) in
    record {
      year = ap pos (sym t.year);
      month = sym t.month;
      day = sym t.day;
      ordinal = (let e : civil.days_of_months (pos y) (m - 1) ≡ days_of_months Civil y (m - 1) = months y (m - 1) in let f : 1 ≤ d = c.2.0 in omega (arith, e, f, t.rest));
      number = subst (λ a. day_number Civil a (month_at Civil n) (day_at Civil n) ≡ n) (sym t.year) (subst (λ b. day_number Civil y b (day_at Civil n) ≡ n) (sym t.month) (subst (λ e. day_number Civil y m e ≡ n) (sym t.day) at));
      date = subst (λ a. IsDate Civil a (month_at Civil n) (day_at Civil n)) (sym t.year) (subst (λ b. IsDate Civil y b (day_at Civil n)) (sym t.month) (subst (λ e. IsDate Civil y m e) (sym t.day) is));
    }

pub placed : (y : ℤ) (m d n : ℕ) → IsCivilDate y m d → n < 3652059 → days_from_civil y m d +ℤ pos 4371587 ≡ pos (n + 3652425) → Placed y m d n
placed (pos zero) m d n c most h = absurd (too_early (pos zero) m d n c (omega (arith, ints)) (day_is (pos zero) m d n h))
placed (pos (suc y)) m d n c most h = in_years (suc y) m d n (omega arith) c most (day_is (pos (suc y)) m d n h)
placed (negsuc y) m d n c most h = absurd (too_early (negsuc y) m d n c (omega (arith, ints)) (day_is (negsuc y) m d n h))

pub epoch_days : (y m d : ℕ) → 1 ≤ y → 1 ≤ d → days_from_civil (pos y) m d +ℤ pos 719162 ≡ pos (day_number Civil y m d)
epoch_days y m d from day = omega (arith, ints, days_from_civil-day_count (pos y) m d, counted y m d from day)

pub at_date : (r y' y'' : ℤ) (m' d' y m d : ℕ) → r ≡ days_from_civil y' m' d' → y' ≡ y'' → y'' ≡ pos y → m' ≡ m → d' ≡ min d (days_in_month y'' m) → IsDate Civil y m d → r +ℤ pos 719162 ≡ pos (day_number Civil y m d)
at_date r y' y'' m' d' y m d e f g h i c =
    let year : y' ≡ pos y = f ∙ g in
    let day : d' ≡ d = i ∙ ap (λ z. min d (days_in_month z m)) g ∙ least d (days_in_month (pos y) m) c.day_to in
    let at : r ≡ days_from_civil (pos y) m d = e ∙ ap (λ z. days_from_civil z m' d') year ∙ ap (λ k. days_from_civil (pos y) k d') h ∙ ap (λ k. days_from_civil (pos y) m k) day in
    ap (λ z. z +ℤ pos 719162) at ∙ epoch_days y m d c.year_from c.day_from

-- the seconds of a day from an epoch day
pub seconds_at : (r : ℤ) (n second : ℕ) → r +ℤ pos 719162 ≡ pos n → r *ℤ pos 86400 +ℤ pos second ≡ pos (86400 * n + second) -ℤ pos 62135596800
seconds_at r n second e = omega (arith, ints, e)
