-- The bins of times begin in the years 1 to 9999.
use Rattle.std.proofs.Common.{◌≡◌, ◌<◌, ◌≤◌, ◌+◌, ◌-◌, ◌*◌, ◌/◌, ◌%◌, ◌==◌, inl, inr, ◌-ℤ◌, ℕ, zero, suc, ℤ, pos, Bool, true, false, cond, List, [], ◌∷◌, length, map, All, Ok, Err, refl, subst, arith}
use Rattle.std.specs.Prelude.{nat_lt, nat_le, slice_index_or, Result}
use Rattle.std.specs.List.{range_with_len}
use Rattle.std.proofs.Math.Nat.{div-mul-le_self, mul-le-mul_right}
use Rattle.std.proofs.lemmas.Int.{ints}
use Rattle.std.proofs.lemmas.Bool.{cases_lt}
use Rattle.xr_types.specs.declared.axis.Calendar.{Calendar}
use Rattle.xr_types.specs.declared.axis.Calendar.TheVariants.{Civil, NoLeap, Days360}
use Rattle.xr_types.specs.declared.fault.Fault.{Fault}
use Rattle.xr_types.specs.declared.fault.Fault.TheVariants.{NotMonotonic, TooLarge}
use Rattle.xr_times.specs.Times.{all_days, day_in_year, day_number, day_since, days_of_months, days_of_years, epoch, month_days, seconds_since, year_at, year_days, IsTime}
use Rattle.xr_times.specs.Bins.{bin_count, bin_number, bin_start, bin_starts, bins_of, first_bin, first_midnight, label_bins, last_bin, rises}
use Rattle.xr_times.specs.declared.bin_list.BinList.{BinList}
use Rattle.xr_times.specs.declared.time.Freq.{Freq}
use Rattle.xr_times.specs.declared.time.Freq.TheVariants as freq
use Rattle.xr_times.proofs.Calendar.{months_all, months_mono, months_more, years_mono, years_more}
use Rattle.xr_grouping.proofs.Steps.{filter_few, ok_same, range_long}

-- ---- days

last_day : (c : Calendar) → days_of_years c 9999 ≡ all_days c
unfolding days_of_years
last_day Civil = refl
last_day NoLeap = refl
last_day Days360 = refl

no_day : (c : Calendar) → days_of_years c (0 - 1) ≡ 0
unfolding days_of_years
no_day c = refl

first_day : (c : Calendar) → year_days c 0 ≤ all_days c
first_day Civil = omega arith
first_day NoLeap = omega arith
first_day Days360 = omega arith

some_days : (c : Calendar) (y : ℕ) → 28 ≤ month_days c y 12
some_days Civil y = omega arith
some_days NoLeap y = omega arith
some_days Days360 y = omega arith

small_day : (c : Calendar) (y m : ℕ) → y ≤ 9999 → m ≤ 12 → day_number c y m 1 < all_days c
small_day c y m small few = by y small
  where
    months : (y : ℕ) → days_of_months c y (m - 1) < year_days c y
    months y =
        let up = months_mono c y (m - 1) 11 (omega (arith, few)) in
        let more = months_more c y 12 (omega arith) in
        let all = months_all c y in
        let some = some_days c y in
        omega (arith, up, more, all, some)

    by : (y : ℕ) → y ≤ 9999 → day_number c y m 1 < all_days c
    by zero small = let lt = months zero in let leap = first_day c in let none = no_day c in omega (arith, lt, leap, none)
    by (suc y) small =
        let lt = months (suc y) in
        let more = years_more c (suc y) (omega arith) in
        let up = years_mono c (suc y) 9999 small in
        let last = last_day c in
        omega (arith, lt, more, up, last)

-- ---- seconds

time_below : (c : Calendar) (x : ℕ) → x < 86400 * all_days c → IsTime c (pos x -ℤ pos (epoch c))
time_below c x lt = record { from = omega (arith, ints); to = omega (arith, ints, lt) }

second_below : (c : Calendar) (t : ℤ) → IsTime c t → seconds_since c t < 86400 * all_days c
second_below c t is = let low = is.from in let high = is.to in omega (arith, ints, low, high)

-- ---- bins

abbrev IsBelow : Calendar → Freq → ℕ → ℕ → Type 0
IsBelow c (freq.Seconds w) m j = m + j * w < 86400 * all_days c
IsBelow c freq.Months m j = j < 120000
IsBelow c freq.Years m j = j ≤ 9999

start_time : (c : Calendar) (f : Freq) (m j : ℕ) → IsBelow c f m j → IsTime c (bin_start c f m j)
start_time c (freq.Seconds w) m j below = time_below c (m + j * w) below
start_time c freq.Months m j below =
    let small = small_day c (j / 12) (j % 12 + 1) (omega (arith, below)) (omega arith) in
    time_below c (86400 * day_number c (j / 12) (j % 12 + 1) 1 + 3600 * 0 + 60 * 0 + 0) (omega (arith, small))
start_time c freq.Years m j below =
    let small = small_day c j 1 below (omega arith) in
    time_below c (86400 * day_number c j 1 1 + 3600 * 0 + 60 * 0 + 0) (omega (arith, small))

between : (c : Calendar) (f : Freq) (m low high j : ℕ) → IsBelow c f m low → IsBelow c f m high → low ≤ j → j < low + (high - low + 1) → IsBelow c f m j
between c (freq.Seconds w) m low high j a b from to = elim (cases_lt high j) [
  | inl over ↦ let e : low ≡ j = omega (arith, from, to, over) in subst (λ i. IsBelow c (freq.Seconds w) m i) e a
  | inr within ↦ let more : j * w ≤ high * w = mul-le-mul_right w within in omega (arith, more, b)
]
between c freq.Months m low high j a b from to = omega (arith, a, b, to)
between c freq.Years m low high j a b from to = omega (arith, a, b, to)

number_below : (c : Calendar) (f : Freq) (m : ℕ) (t : ℤ) → m < 86400 * all_days c → IsTime c t → IsBelow c f m (bin_number c f m t)
unfolding year_at
number_below c (freq.Seconds w) m t small is = let low = div-mul-le_self (seconds_since c t - m) w in let most = second_below c t is in omega (arith, low, most, small)
number_below c freq.Months m t small is =
    let years = filter_few (λ y. nat_le (days_of_years c (y - 1)) (day_since c t)) (range_with_len 1 9999) in
    let months = filter_few (λ k. nat_le (days_of_months c (year_at c (day_since c t)) (k - 1)) (day_in_year c (day_since c t))) (range_with_len 1 12) in
    let ys = range_long 1 9999 in
    let ms = range_long 1 12 in
    omega (arith, years, months, ys, ms)
number_below c freq.Years m t small is = let years = filter_few (λ y. nat_le (days_of_years c (y - 1)) (day_since c t)) (range_with_len 1 9999) in let ys = range_long 1 9999 in omega (arith, years, ys)

-- ---- labels

origin : (c : Calendar) → IsTime c (pos 0)
origin Civil = record { from = omega (arith, ints); to = omega (arith, ints) }
origin NoLeap = record { from = omega (arith, ints); to = omega (arith, ints) }
origin Days360 = record { from = omega (arith, ints); to = omega (arith, ints) }

at_time : (c : Calendar) (ts : List ℤ) (i : ℕ) → All (IsTime c) ts → IsTime c (slice_index_or ts i (pos 0))
at_time c [] i all = origin c
at_time c (t ∷ ts) zero all = all zero t (omega arith)
at_time c (t ∷ ts) (suc i) all = at_time c ts i (λ k d lt. all (suc k) d (omega (arith, lt)))

all_range : (P : ℤ → Type 0) (f : ℕ → ℤ) (a n : ℕ) → ((j : ℕ) → a ≤ j → j < a + n → P (f j)) → All P (map f (range_with_len a n))
all_range P f a zero each i d lt = absurd (omega (arith, lt))
all_range P f a (suc n) each zero d lt = each a (omega arith) (omega arith)
all_range P f a (suc n) each (suc i) d lt = all_range P f (a + 1) n (λ j lo hi. each j (omega (arith, lo)) (omega (arith, hi))) i d (omega (arith, lt))

at_most : (b : Bool) (v : ℕ) → cond b 0 v ≤ v
at_most true v = omega arith
at_most false v = omega arith

all_starts : (c : Calendar) (f : Freq) (ts : List ℤ) → All (IsTime c) ts → All (IsTime c) (bin_starts c f ts)
all_starts c f ts all =
    let first = at_time c ts 0 all in
    let last = at_time c ts (length ts - 1) all in
    let second = second_below c (slice_index_or ts 0 (pos 0)) first in
    let small : first_midnight c ts < 86400 * all_days c = omega (arith, second) in
    let low = number_below c f (first_midnight c ts) (slice_index_or ts 0 (pos 0)) small first in
    let high = number_below c f (first_midnight c ts) (slice_index_or ts (length ts - 1) (pos 0)) small last in
    let count : bin_count c f ts ≤ last_bin c f ts - first_bin c f ts + 1 = at_most (length ts == 0) (last_bin c f ts - first_bin c f ts + 1) in
    all_range (IsTime c) (bin_start c f (first_midnight c ts)) (first_bin c f ts) (bin_count c f ts)
    (λ j lo hi. start_time c f (first_midnight c ts) j (between c f (first_midnight c ts) (first_bin c f ts) (last_bin c f ts) j low high lo (omega (arith, hi, count))))

pub starts_timed : (c : Calendar) (f : Freq) (ts : List ℤ) (b : BinList) → All (IsTime c) ts → bins_of c f ts ≡ Ok b → All (IsTime c) b.starts
starts_timed c f ts b all e = by (rises ts) (nat_lt 33554432 (bin_count c f ts)) e
  where
    by : (r m : Bool) → ◌≡◌ {A = Result BinList Fault} (cond r (cond m (Err TooLarge) (Ok (record { starts = bin_starts c f ts; bin = label_bins c f ts }))) (Err NotMonotonic)) (Ok b) → All (IsTime c) b.starts
    by false m e = absurd cc
    by true true e = absurd cc
    by true false e = subst (λ (k : BinList). All (IsTime c) k.starts) (ok_same (record { starts = bin_starts c f ts; bin = label_bins c f ts }) b e) (all_starts c f ts all)
