-- The dates that are listed, their places and their numbers.
use Rattle.std.proofs.Common.{◌≡◌, ◌≢◌, ℕ, ℤ, pos, ◌+ℤ◌, ◌<◌, ◌≤◌, ◌+◌, ◌-◌, ◌*◌, length, map, Some, refl, sym, ◌∙◌, ap, subst, arith, mul-le-mul_right}
use Rattle.std.specs.List.{range_with_len, slice_get}
use Rattle.std.proofs.lemmas.Int.{ints}
use Rattle.std.proofs.lemmas.Option.{slice_get-get_or}
use Rattle.std.proofs.lemmas.List.FromFn.{length-map-range_with_len, get_or-map-range_with_len}
use Rattle.xr_types.specs.declared.axis.Calendar.{Calendar}
use Rattle.xr_types.specs.declared.axis.Calendar.TheVariants.{Civil}
use Rattle.cf_calendar.specs.declared.date.CalDate.{CalDate}
use Rattle.cf_calendar.specs.Dates.{month_days, date, dates_of_month, dates_of_year, dates_of_years, HasNumber, IsNamed, IsDay}
use Rattle.cf_calendar.specs.Places.{year_days, days_of_months, IsDate, place}
use Rattle.cf_calendar.proofs.Flat.{flat_at, Inside, inside, offset_same, length_flat}
use Rattle.cf_calendar.proofs.Months.{offset_months, year_of_months, within_year, first_date, no_months}

-- ---- lengths

length_month : (c : Calendar) (y m : ℕ) → length (dates_of_month c y m) ≡ month_days c m
unfolding dates_of_month
length_month c y m = length-map-range_with_len (date y m) 1 (month_days c m)

length_year : (c : Calendar) (y : ℕ) → length (dates_of_year c y) ≡ year_days c
unfolding dates_of_year
length_year c y = length_flat (dates_of_month c y) (month_days c) (length_month c y) 1 12 ∙ offset_months c 12 ∙ year_of_months c

-- ---- the date at a place

month_at : (c : Calendar) (y m r d : ℕ) → r < month_days c m → 1 + r ≡ d → slice_get (dates_of_month c y m) r ≡ Some (date y m d)
unfolding dates_of_month
month_at c y m r d s e =
    let l = length-map-range_with_len (date y m) 1 (month_days c m) in
    let short : r < length (map (date y m) (range_with_len 1 (month_days c m))) = omega (arith, l) in
    slice_get-get_or (map (date y m) (range_with_len 1 (month_days c m))) r (date y m d) short
    ∙ ap Some (get_or-map-range_with_len (date y m) 1 (month_days c m) r d (date y m d) s e)

year_at : (c : Calendar) (y m d : ℕ) → 1 ≤ m → m ≤ 12 → 1 ≤ d → d ≤ month_days c m → slice_get (dates_of_year c y) (days_of_months c (m - 1) + (d - 1)) ≡ Some (date y m d)
unfolding dates_of_year
year_at c y m d a b e f =
    let before = offset_months c (m - 1) in
    flat_at (dates_of_month c y) (month_days c) (length_month c y) 1 12 (m - 1) (d - 1) m (days_of_months c (m - 1) + (d - 1)) (omega arith) (omega arith) (omega arith) (ap (λ n. n + (d - 1)) before)
    ∙ month_at c y m (d - 1) d (omega arith) (omega arith)

years_at : (c : Calendar) (n y r : ℕ) → 1 ≤ y → y ≤ n → r < year_days c → slice_get (dates_of_years c n) ((y - 1) * year_days c + r) ≡ slice_get (dates_of_year c y) r
unfolding dates_of_years
years_at c n y r a b s =
    let before = offset_same (year_days c) 1 (y - 1) in
    flat_at (dates_of_year c) (λ k. year_days c) (length_year c) 1 n (y - 1) r y ((y - 1) * year_days c + r) (omega arith) (omega arith) s (ap (λ m. m + r) before)

-- a date stands at its place
pub listed : (c : Calendar) (d : CalDate) → IsDate c d → slice_get (dates_of_years c 9999) (place c d) ≡ Some d
listed c d h =
    let short = within_year c d.month d.day h.month_from h.month_to h.day_from h.day_to in
    years_at c 9999 d.year (days_of_months c (d.month - 1) + (d.day - 1)) h.year_from h.year_to short
    ∙ year_at c d.year d.month d.day h.month_from h.month_to h.day_from h.day_to

-- ---- the place of a date

pub record Placed (c : Calendar) (n p : ℕ) (d : CalDate) : Type 0 where
  pub year_from : 1 ≤ d.year
  pub year_to : d.year ≤ n
  pub month_from : 1 ≤ d.month
  pub month_to : d.month ≤ 12
  pub day_from : 1 ≤ d.day
  pub day_to : d.day ≤ month_days c d.month
  pub place : place c d ≡ p

month_of : (c : Calendar) (y m r : ℕ) (x : CalDate) → r < month_days c m → slice_get (dates_of_month c y m) r ≡ Some x → x ≡ date y m (1 + r)
month_of c y m r x s h = let e : Some (date y m (1 + r)) ≡ Some x = sym (month_at c y m r (1 + r) s refl) ∙ h in cc

placed : (c : Calendar) (n p : ℕ) (x : CalDate) → slice_get (dates_of_years c n) p ≡ Some x → Placed c n p x
unfolding dates_of_years dates_of_year
placed c n p x h =
    let years : Inside CalDate (dates_of_year c) (λ k. year_days c) 1 n p x = inside (dates_of_year c) (λ k. year_days c) (length_year c) 1 n p x h in
    let months : Inside CalDate (dates_of_month c years.number) (month_days c) 1 12 years.rest x = inside (dates_of_month c years.number) (month_days c) (length_month c years.number) 1 12 years.rest x years.here in
    let is : x ≡ date years.number months.number (1 + months.rest) = month_of c years.number months.number months.rest x months.short months.here in
    let before_year = offset_same (year_days c) 1 years.list in
    let before_month = offset_months c months.list in
    let year_is = years.is in
    let month_is = months.is in
    let year_place = years.place in
    let month_place = months.place in
    let year_within = years.within in
    let month_within = months.within in
    let short = months.short in
    let list_is : months.number - 1 ≡ months.list = omega (arith, month_is) in
    let year_list : years.number - 1 ≡ years.list = omega (arith, year_is) in
    let days_is : (1 + months.rest) - 1 ≡ months.rest = omega arith in
    let there : Placed c n p (date years.number months.number (1 + months.rest)) = record {
      year_from = omega (arith, year_is);
      year_to = omega (arith, year_is, year_within);
      month_from = omega (arith, month_is);
      month_to = omega (arith, month_is, month_within);
      day_from = omega arith;
      day_to = omega (arith, short);
      place = rw (list_is, year_list, days_is) (omega (arith, before_year, before_month, year_place, month_place));
    } in
    subst (Placed c n p) (sym is) there

-- what is listed is a date at its place
pub listed_date : (c : Calendar) (p : ℕ) (x : CalDate) → slice_get (dates_of_years c 9999) p ≡ Some x → IsDate c x
listed_date c p x h = let e = placed c 9999 p x h in record { year_from = e.year_from; year_to = e.year_to; month_from = e.month_from; month_to = e.month_to; day_from = e.day_from; day_to = e.day_to }

pub listed_place : (c : Calendar) (p : ℕ) (x : CalDate) → slice_get (dates_of_years c 9999) p ≡ Some x → place c x ≡ p
listed_place c p x h = (placed c 9999 p x h).place

-- ---- numbers

first_place : (c : Calendar) → place c (date 1970 1 1) ≡ 1969 * year_days c
first_place c = let e = no_months c in omega (arith, e)

-- a date's place and its number
pub numbered : (c : Calendar) (d : CalDate) (n : ℤ) → c ≢ Civil → IsDate c d → (n +ℤ pos (1969 * year_days c)) ≡ pos (place c d) → HasNumber c d n
numbered c d n s h e = record {
  place = place c d;
  first = 1969 * year_days c;
  here = listed c d h;
  there = subst (λ p. slice_get (dates_of_years c 9999) p ≡ Some (date 1970 1 1)) (first_place c) (listed c (date 1970 1 1) (first_date c s));
  number = e;
}

pub number_date : (c : Calendar) (d : CalDate) (n : ℤ) → HasNumber c d n → IsDate c d
number_date c d n h = listed_date c h.place d h.here

pub number_place : (c : Calendar) (d : CalDate) (n : ℤ) → HasNumber c d n → (n +ℤ pos (1969 * year_days c)) ≡ pos (place c d)
number_place c d n h =
    let first : h.first ≡ 1969 * year_days c = sym (listed_place c h.first (date 1970 1 1) h.there) ∙ first_place c in
    let here : h.place ≡ place c d = sym (listed_place c h.place d h.here) in
    subst (λ p. (n +ℤ pos p) ≡ pos (place c d)) first (subst (λ p. (n +ℤ pos h.first) ≡ pos p) here h.number)

-- a date's place is below the number of all dates
pub place_below : (c : Calendar) (d : CalDate) → IsDate c d → place c d < 9999 * year_days c
place_below c d h =
    let short = within_year c d.month d.day h.month_from h.month_to h.day_from h.day_to in
    let years : d.year - 1 ≤ 9998 = let e = h.year_to in omega (arith, e) in
    let most = mul-le-mul_right (year_days c) years in
    omega (arith, short, most)

pub one_number : (c : Calendar) (d : CalDate) (m n : ℤ) → HasNumber c d m → HasNumber c d n → m ≡ n
one_number c d m n h k = let e = number_place c d m h in let f = number_place c d n k in omega (arith, ints, e, f)

pub one_date : (c : Calendar) (d x : CalDate) (n : ℤ) → HasNumber c d n → HasNumber c x n → d ≡ x
one_date c d x n h k =
    let e = number_place c d n h in
    let f = number_place c x n k in
    let same : place c d ≡ place c x = omega (arith, ints, e, f) in
    let both : Some d ≡ Some x = sym (listed c d (number_date c d n h)) ∙ ap (slice_get (dates_of_years c 9999)) same ∙ listed c x (number_date c x n k) in
    cc

-- ---- names

pub named_one : (d x : CalDate) (y m k : ℤ) → IsNamed d y m k → IsNamed x y m k → d ≡ x
named_one d x y m k g h =
    let year : d.year ≡ x.year = let e = g.year in let f = h.year in omega (arith, ints, e, f) in
    let month : d.month ≡ x.month = let e = g.month in let f = h.month in omega (arith, ints, e, f) in
    let day : d.day ≡ x.day = let e = g.day in let f = h.day in omega (arith, ints, e, f) in
    ap (λ v. date v d.month d.day) year ∙ ap (λ v. date x.year v d.day) month ∙ ap (date x.year x.month) day

pub day_again : (c : Calendar) (d : CalDate) (y m k n again : ℤ) → HasNumber c d n → IsNamed d y m k → IsDay c y m k again → again ≡ n
day_again c d y m k n again h g i =
    let same : i.date ≡ d = named_one i.date d y m k i.named g in
    one_number c d again n (subst (λ x. HasNumber c x again) same i.number) h

pub named_again : (c : Calendar) (x : CalDate) (y m k n : ℤ) → IsDay c y m k n → HasNumber c x n → IsNamed x y m k
named_again c x y m k n i h = subst (λ d. IsNamed d y m k) (one_date c i.date x n i.number h) i.named
