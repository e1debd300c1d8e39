-- Where the years are alike, the dates before a date are the days to it.
use Rattle.std.proofs.Common.{◌≡◌, ◌≢◌, ℕ, zero, suc, ◌+◌, ◌-◌, ◌*◌, ◌%◌, ◌<◌, ◌≤◌, inl, inr, ◌⊎◌, refl, sym, subst, ◌∙◌, ap, arith}
use Rattle.xr_types.specs.declared.axis.Calendar.{Calendar}
use Rattle.xr_types.specs.declared.axis.Calendar.TheVariants.{Civil, NoLeap, Days360}
use Rattle.cf_calendar.specs.declared.date.CalDate.{CalDate}
use Rattle.cf_calendar.specs.Dates as listed
use Rattle.cf_calendar.specs.Places as places
use Rattle.cf_calendar.proofs.Months.{within_year}
use Rattle.xr_times.specs.Times.{year_days, month_days, days_of_years, days_of_months, IsDate, all_days, day_number, year_at, month_at, day_at, day_in_year}
use Rattle.xr_times.proofs.Calendar.{Dated, dated}
use Rattle.cf_time.specs.Days.{DateOf}

pub alike : (c : Calendar) → (c ≡ NoLeap) ⊎ (c ≡ Days360) → c ≢ Civil
alike Civil h e = elim h [ inl a ↦ (cc) | inr b ↦ (cc) ]
alike NoLeap h e = (cc)
alike Days360 h e = (cc)

pub same_year_days : (c : Calendar) (y : ℕ) → c ≢ Civil → places.year_days c ≡ year_days c y
same_year_days Civil y h = absurd (h refl)
same_year_days NoLeap y h = refl
same_year_days Days360 y h = refl

noleap : (y m : ℕ) → 1 ≤ m → m ≤ 12 → listed.month_days NoLeap m ≡ month_days NoLeap y m
unfolding listed.month_days
noleap y zero a b = absurd (omega arith)
noleap y (suc zero) a b = refl
noleap y (suc (suc zero)) a b = refl
noleap y (suc (suc (suc zero))) a b = refl
noleap y (suc (suc (suc (suc zero)))) a b = refl
noleap y (suc (suc (suc (suc (suc zero))))) a b = refl
noleap y (suc (suc (suc (suc (suc (suc zero)))))) a b = refl
noleap y (suc (suc (suc (suc (suc (suc (suc zero))))))) a b = refl
noleap y (suc (suc (suc (suc (suc (suc (suc (suc zero)))))))) a b = refl
noleap y (suc (suc (suc (suc (suc (suc (suc (suc (suc zero))))))))) a b = refl
noleap y (suc (suc (suc (suc (suc (suc (suc (suc (suc (suc zero)))))))))) a b = refl
noleap y (suc (suc (suc (suc (suc (suc (suc (suc (suc (suc (suc zero))))))))))) a b = refl
noleap y (suc (suc (suc (suc (suc (suc (suc (suc (suc (suc (suc (suc zero)))))))))))) a b = refl
noleap y (suc (suc (suc (suc (suc (suc (suc (suc (suc (suc (suc (suc (suc m))))))))))))) a b = absurd (omega arith)

days360 : (y m : ℕ) → 1 ≤ m → m ≤ 12 → listed.month_days Days360 m ≡ month_days Days360 y m
unfolding listed.month_days
days360 y zero a b = absurd (omega arith)
days360 y (suc zero) a b = refl
days360 y (suc (suc zero)) a b = refl
days360 y (suc (suc (suc zero))) a b = refl
days360 y (suc (suc (suc (suc zero)))) a b = refl
days360 y (suc (suc (suc (suc (suc zero))))) a b = refl
days360 y (suc (suc (suc (suc (suc (suc zero)))))) a b = refl
days360 y (suc (suc (suc (suc (suc (suc (suc zero))))))) a b = refl
days360 y (suc (suc (suc (suc (suc (suc (suc (suc zero)))))))) a b = refl
days360 y (suc (suc (suc (suc (suc (suc (suc (suc (suc zero))))))))) a b = refl
days360 y (suc (suc (suc (suc (suc (suc (suc (suc (suc (suc zero)))))))))) a b = refl
days360 y (suc (suc (suc (suc (suc (suc (suc (suc (suc (suc (suc zero))))))))))) a b = refl
days360 y (suc (suc (suc (suc (suc (suc (suc (suc (suc (suc (suc (suc zero)))))))))))) a b = refl
days360 y (suc (suc (suc (suc (suc (suc (suc (suc (suc (suc (suc (suc (suc m))))))))))))) a b = absurd (omega arith)

pub same_month_days : (c : Calendar) (y m : ℕ) → c ≢ Civil → 1 ≤ m → m ≤ 12 → listed.month_days c m ≡ month_days c y m
same_month_days Civil y m h a b = absurd (h refl)
same_month_days NoLeap y m h a b = noleap y m a b
same_month_days Days360 y m h a b = days360 y m a b

months : (c : Calendar) (y n : ℕ) → c ≢ Civil → n ≤ 12 → places.days_of_months c n ≡ days_of_months c y n
unfolding places.days_of_months days_of_months
months c y zero h b = refl
months c y (suc n) h b =
    let e : places.days_of_months c n ≡ days_of_months c y n = months c y n h (omega arith) in
    let f : listed.month_days c (suc n) ≡ month_days c y (suc n) = same_month_days c y (suc n) h (omega arith) b in
    omega (arith, e, f)

years : (c : Calendar) (n : ℕ) → c ≢ Civil → days_of_years c n ≡ n * places.year_days c
unfolding days_of_years
years Civil n h = absurd (h refl)
years NoLeap zero h = refl
years NoLeap (suc n) h = let e : days_of_years NoLeap n ≡ n * 365 = years NoLeap n h in omega (arith, e)
years Days360 zero h = refl
years Days360 (suc n) h = let e : days_of_years Days360 n ≡ n * 360 = years Days360 n h in omega (arith, e)

-- a date of the calendar is one of those that are listed
pub is_listed : (c : Calendar) (y m d : ℕ) → c ≢ Civil → IsDate c y m d → places.IsDate c (record { year = y; month = m; day = d })
is_listed c y m d h date = record {
  year_from = date.year_from;
  year_to = date.year_to;
  month_from = date.month_from;
  month_to = date.month_to;
  day_from = date.day_from;
  day_to = (let e = same_month_days c y m h date.month_from date.month_to in let f = date.day_to in omega (arith, e, f));
}

pub place_is : (c : Calendar) (y m d : ℕ) → c ≢ Civil → m ≤ 12 → places.place c (record { year = y; month = m; day = d }) ≡ day_number c y m d
place_is c y m d h b =
    let e : days_of_years c (y - 1) ≡ (y - 1) * places.year_days c = years c (y - 1) h in
    let f : places.days_of_months c (m - 1) ≡ days_of_months c y (m - 1) = months c y (m - 1) h (omega arith) in
    omega (arith, e, f)

pub all_listed : (c : Calendar) → c ≢ Civil → all_days c ≡ 9999 * places.year_days c
all_listed Civil h = absurd (h refl)
all_listed NoLeap h = refl
all_listed Days360 h = refl

rest_of : (c : Calendar) (q r n : ℕ) → c ≢ Civil → q * places.year_days c + r ≡ n → r < places.year_days c → n % places.year_days c ≡ r
rest_of Civil q r n h e s = absurd (h refl)
rest_of NoLeap q r n h e s = omega (arith, e, s)
rest_of Days360 q r n h e s = omega (arith, e, s)

-- the date before which there are so many dates is that of the day
pub date_of : (c : Calendar) (y m d n : ℕ) → c ≢ Civil → places.IsDate c (record { year = y; month = m; day = d }) → places.place c (record { year = y; month = m; day = d }) ≡ n → DateOf c y m d (n % places.year_days c + 1) n
date_of c y m d n h date at =
    let same : listed.month_days c m ≡ month_days c y m = same_month_days c y m h date.month_from date.month_to in
    let last : d ≤ month_days c y m = let f : d ≤ listed.month_days c m = date.day_to in omega (arith, same, f) in
    let is : IsDate c y m d = record { year_from = date.year_from; year_to = date.year_to; month_from = date.month_from; month_to = date.month_to; day_from = date.day_from; day_to = last } in
    let k : day_number c y m d ≡ n = sym (place_is c y m d h date.month_to) ∙ at in
    let t : Dated c y m d n = subst (Dated c y m d) k (dated c y m d is) in
    let short : places.days_of_months c (m - 1) + (d - 1) < places.year_days c = within_year c m d date.month_from date.month_to date.day_from date.day_to in
    let rest : n % places.year_days c ≡ places.days_of_months c (m - 1) + (d - 1) = rest_of c (y - 1) (places.days_of_months c (m - 1) + (d - 1)) n h at short in
    let f : places.days_of_months c (m - 1) ≡ days_of_months c y (m - 1) = months c y (m - 1) h (let g : m ≤ 12 = date.month_to in omega (arith, g)) in
    record {
      year = sym t.year;
      month = sym t.month;
      day = sym t.day;
      ordinal = omega (arith, rest, f, t.rest);
      number = subst (λ a. day_number c a (month_at c n) (day_at c n) ≡ n) (sym t.year) (subst (λ b. day_number c y b (day_at c n) ≡ n) (sym t.month) (subst (λ e. day_number c y m e ≡ n) (sym t.day) k));
      date = subst (λ a. IsDate c a (month_at c n) (day_at c n)) (sym t.year) (subst (λ b. IsDate c y b (day_at c n)) (sym t.month) (subst (λ e. IsDate c y m e) (sym t.day) is));
    }
