-- The days of months and of years.
use Rattle.std.proofs.Common.{◌≡◌, ◌≢◌, ℕ, zero, suc, ◌<◌, ◌≤◌, ◌+◌, ◌-◌, refl, sym, ap, subst, arith}
use Rattle.xr_types.specs.declared.axis.Calendar.{Calendar}
use Rattle.xr_types.specs.declared.axis.Calendar.TheVariants.{Civil, NoLeap, Days360}
use Rattle.cf_calendar.specs.Dates.{month_days, date}
use Rattle.cf_calendar.specs.Places.{year_days, days_of_months, IsDate}
use Rattle.cf_calendar.proofs.Flat.{offset, offset_more}

pub offset_months : (c : Calendar) (i : ℕ) → offset (month_days c) 1 i ≡ days_of_months c i
unfolding offset days_of_months
offset_months c zero = refl
offset_months c (suc i) = let e = offset_more (month_days c) 1 i (suc i) (omega arith) in let g = offset_months c i in omega (arith, e, g)

pub months_more : (c : Calendar) (i k : ℕ) → i + 1 ≡ k → days_of_months c k ≡ days_of_months c i + month_days c k
unfolding days_of_months
months_more c i zero h = absurd (omega arith)
months_more c i (suc k) h = let e : k ≡ i = omega arith in ap (λ m. days_of_months c m + month_days c (suc k)) e

-- twelve months are a year
pub year_of_months : (c : Calendar) → days_of_months c 12 ≡ year_days c
unfolding days_of_months month_days
year_of_months NoLeap = refl
year_of_months Days360 = refl
year_of_months Civil = refl

pub months_rise : (c : Calendar) (i k : ℕ) → days_of_months c i ≤ days_of_months c (k + i)
months_rise c i zero = let e : zero + i ≡ i = omega arith in subst (λ m. days_of_months c i ≤ days_of_months c m) (sym e) (omega arith)
months_rise c i (suc k) =
    let h = months_rise c i k in
    let e = months_more c (k + i) (suc k + i) (omega arith) in
    omega (arith, h, e)

-- the days before a month are no more than those before a later one
pub months_least : (c : Calendar) (i j : ℕ) → i ≤ j → days_of_months c i ≤ days_of_months c j
months_least c i j h = let e : (j - i) + i ≡ j = omega arith in subst (λ m. days_of_months c i ≤ days_of_months c m) e (months_rise c i (j - i))

-- a day of a month lies within its year
pub within_year : (c : Calendar) (m d : ℕ) → 1 ≤ m → m ≤ 12 → 1 ≤ d → d ≤ month_days c m → days_of_months c (m - 1) + (d - 1) < year_days c
within_year c m d a b e f =
    let more = months_more c (m - 1) m (omega arith) in
    let least = months_least c m 12 b in
    let all = year_of_months c in
    omega (arith, more, least, all)

pub some_days : (c : Calendar) → c ≢ Civil → 1 ≤ month_days c 1
unfolding month_days
some_days NoLeap h = omega arith
some_days Days360 h = omega arith
some_days Civil h = absurd (h refl)

-- 1970-01-01 is a date
pub first_date : (c : Calendar) → c ≢ Civil → IsDate c (date 1970 1 1)
first_date c h = record { year_from = omega arith; year_to = omega arith; month_from = omega arith; month_to = omega arith; day_from = omega arith; day_to = some_days c h }

pub no_months : (c : Calendar) → days_of_months c 0 ≡ 0
unfolding days_of_months
no_months c = refl
