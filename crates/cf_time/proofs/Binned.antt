-- Times of one bin.
use Rattle.std.proofs.Common.{◌≡◌, ℕ, zero, suc, ◌+◌, ◌-◌, ◌*◌, ◌/◌, ◌<◌, ◌≤◌, ℤ, pos, ◌≤ℤ◌, ◌+ℤ◌, negsuc, map, ◌&&◌, Bool, true, false, nat_le, List, [], ◌∷◌, ◌++◌, length, get_or, refl, sym, subst, ◌∙◌, ap, arith, append-nil, inl, inr}
use Rattle.std.specs.List.{filter, range_with_len}
use Rattle.std.proofs.Math.Nat.{div-mul-le_self, div-eq_of_lt-le, mul-le-mul_right}
use Rattle.std.proofs.lemmas.Nat.{le-div}
use Rattle.std.proofs.lemmas.List.{map-append}
use Rattle.std.proofs.lemmas.Bool.{cases_lt}
use Rattle.std.proofs.lemmas.Int.{ints}
use Rattle.std.specs.Prelude.{unsigned_abs, int_le, ◌==◌, if◌then◌else◌}
use Rattle.xr_times.specs.Bins.{IsFreq, IsBin, IsFew, bin_number, rises_from, rises, first_midnight, first_bin, last_bin, bin_count}
use Rattle.xr_times.specs.declared.time.Freq.{Freq}
use Rattle.xr_times.specs.declared.time.Freq.TheVariants as freq
use Rattle.std.proofs.lemmas.List.Elements.{filter-append}
use Rattle.std.proofs.lemmas.List.FromFn.{length-range_with_len}
use Rattle.std.proofs.lemmas.Bool.Decides.{nat_tests}
use Rattle.xr_types.specs.declared.axis.Calendar.{Calendar}
use Rattle.xr_times.specs.Times.{IsDate, IsTime, epoch, all_days, seconds_since, month_days, year_days, days_of_years, day_number, year_at, month_at}
use Rattle.xr_times.proofs.Calendar.{Dated, dated, years_more, years_mono}
use Rattle.xr_arrays.proofs.LabelPlaces.{filter_none, filter_all, range_with_len-add}

-- ---- a width

pub width_same : (width first number s to : ℕ) → to ≤ first + number * width + width → first + number * width ≤ s → s < to → (s - first) / width ≡ number
width_same width first number s to h lo hi =
    let low : number * width ≤ s - first = omega (arith, lo) in
    let high : s - first < (number + 1) * width = omega (arith, h, hi, lo) in
    div-eq_of_lt-le width low high

-- the bin of a later time isn't before
pub later_bin : (width first s t : ℕ) → 0 < width → s ≤ t → (s - first) / width ≤ (t - first) / width
later_bin width first s t some up =
    let low : (s - first) / width * width ≤ s - first = div-mul-le_self (s - first) width in
    le-div ((s - first) / width) (t - first) width some (omega (arith, low, up))

-- ---- a month

pub same_month : (c : Calendar) (y m d n k : ℕ) → IsDate c y m d → day_number c y m d ≡ n → n + 1 - d ≤ k → k < n + 1 - d + month_days c y m → (year_at c k ≡ y) × (month_at c k ≡ m)
same_month c y m d n k date at from to =
    let first : 1 ≤ d = date.day_from in
    let is : IsDate c y m (k + d - n) = record { year_from = date.year_from; year_to = date.year_to; month_from = date.month_from; month_to = date.month_to; day_from = omega (arith, first, from, at); day_to = omega (arith, first, from, to, at) } in
    let e : day_number c y m (k + d - n) ≡ k = omega (arith, first, from, at) in
    let t : Dated c y m (k + d - n) k = subst (Dated c y m (k + d - n)) e (dated c y m (k + d - n) is) in
    (t.year, t.month)

-- ---- a year

begun : (f : ℕ → ℕ) (n hi y : ℕ) → ((a b : ℕ) → a ≤ b → f a ≤ f b) → 1 ≤ y → y ≤ hi → f y ≤ n → n < f (y + 1) → length (filter (λ k. nat_le (f k) n) (range_with_len 1 hi)) ≡ y
begun f n hi y mono from to here next =
    let p : ℕ → Bool = λ k. nat_le (f k) n in
    let low : filter p (range_with_len 1 y) ≡ range_with_len 1 y = filter_all p 1 y (λ k a b. let e : f k ≤ f y = mono k y (omega arith) in let g : f k ≤ n = omega arith in grind (arith, nat_tests)) in
    let high : filter p (range_with_len (1 + y) (hi - y)) ≡ [] = filter_none p (1 + y) (hi - y) (λ k a b. let e : f (y + 1) ≤ f k = mono (y + 1) k (omega arith) in let g : n < f k = omega arith in grind (arith, nat_tests)) in
    let whole : hi ≡ y + (hi - y) = omega arith in
    ap length (ap (λ m. filter p (range_with_len 1 m)) whole ∙ ap (filter p) (range_with_len-add 1 y (hi - y)) ∙ filter-append p (range_with_len 1 y) _ ∙ ap (λ l. l ++ filter p (range_with_len (1 + y) (hi - y))) low ∙ ap (λ l. range_with_len 1 y ++ l) high ∙ append-nil _) ∙ length-range_with_len 1 y

pub same_year : (c : Calendar) (y k : ℕ) → 1 ≤ y → y ≤ 9999 → days_of_years c (y - 1) ≤ k → k < days_of_years c (y - 1) + year_days c y → year_at c k ≡ y
unfolding year_at
same_year c y k from to low high =
    let next : y + 1 - 1 ≡ y = omega arith in
    let more : days_of_years c y ≡ days_of_years c (y - 1) + year_days c y = years_more c y from in
    let before : k < days_of_years c y = omega (arith, more, high) in
    begun (λ j. days_of_years c (j - 1)) k 9999 y (λ a b h. years_mono c (a - 1) (b - 1) (omega arith)) from to low (subst (λ j. k < days_of_years c j) (sym next) before)

-- ---- one more place

pub range_push : (a n : ℕ) → range_with_len a (n + 1) ≡ range_with_len a n ++ (a + n) ∷ []
range_push a n = range_with_len-add a n 1

pub starts_push : (f : ℕ → ℤ) (low n : ℕ) → map f (range_with_len low (n + 1)) ≡ map f (range_with_len low n) ++ f (low + n) ∷ []
starts_push f low n = ap (map f) (range_push low n) ∙ map-append f (range_with_len low n) ((low + n) ∷ [])

-- ---- bins from one to another

pub bins_between : (c : Calendar) (f : Freq) (first low high j : ℕ) → IsBin c f first low → IsBin c f first high → low ≤ j → j < low + (high - low + 1) → IsBin c f first j
bins_between c (freq.Seconds width) first low high j a b from to = elim (cases_lt high j) [
  | inl over ↦ let e : low ≡ j = omega (arith, from, to, over) in subst (λ i. IsBin c (freq.Seconds width) first i) e a
  | inr within ↦ let more : j * width ≤ high * width = mul-le-mul_right width within in omega (arith, more, b)
]
bins_between c freq.Months first low high j a b from to = (omega (arith, a.0, from), omega (arith, a.1, b.1, to))
bins_between c freq.Years first low high j a b from to = (omega (arith, a.0, from), omega (arith, a.1, b.1, to))

-- ---- labels that ascend

up_to : (x y : ℤ) → int_le x y ≡ true → x ≤ℤ y
up_to x y h = grind (arith, ints)

both_left : (a b : Bool) → (a && b) ≡ true → a ≡ true
both_left true b h = refl
both_left false b h = h

both_right : (a b : Bool) → (a && b) ≡ true → b ≡ true
both_right true b h = h
both_right false b h = absurd (cc)

-- each is at most the last
pub at_most_last : (x : ℤ) (xs : List ℤ) (k : ℕ) (d e : ℤ) → rises_from x xs ≡ true → k < length (x ∷ xs) → get_or (x ∷ xs) k d ≤ℤ get_or (x ∷ xs) (length xs) e
at_most_last x [] zero d e h s = omega (arith, ints)
at_most_last x [] (suc k) d e h s = absurd (omega arith)
at_most_last x (y ∷ ys) zero d e h s =
    let up : x ≤ℤ y = up_to x y (both_left (int_le x y) (rises_from y ys) h) in
    let rest : y ≤ℤ get_or (y ∷ ys) (length ys) e = at_most_last y ys zero d e (both_right (int_le x y) (rises_from y ys) h) (omega arith) in
    omega (arith, ints, up, rest)
at_most_last x (y ∷ ys) (suc k) d e h s = at_most_last y ys k d e (both_right (int_le x y) (rises_from y ys) h) (omega (arith, s))

abs_up : (z w : ℤ) → pos 0 ≤ℤ z → z ≤ℤ w → unsigned_abs z ≤ unsigned_abs w
abs_up (pos a) (pos b) h up = omega (arith, ints, up)
abs_up (pos a) (negsuc b) h up = absurd (omega (arith, ints, up))
abs_up (negsuc a) w h up = absurd (omega (arith, ints, h))

since_up : (c : Calendar) (s t : ℤ) → IsTime c s → s ≤ℤ t → seconds_since c s ≤ seconds_since c t
since_up c s t h up = abs_up (s +ℤ pos (epoch c)) (t +ℤ pos (epoch c)) h.from (omega (arith, ints, up))

counted : (n v : ℕ) → (if suc n == 0 then 0 else v) ≡ v
counted n v = grind (arith, nat_tests)

few_steps : (here last first : ℕ) → here ≤ last → last - first + 1 ≤ 33554432 → here - first < 33554432
few_steps here last first up most = omega (arith, up, most)

few_from : (c : Calendar) (f : Freq) (x : ℤ) (xs : List ℤ) (k : ℕ) (d : ℤ) → IsFreq f → rises_from x xs ≡ true → bin_count c f (x ∷ xs) ≤ 33554432 → IsTime c (get_or (x ∷ xs) k d) → k < length (x ∷ xs) → IsFew f (bin_number c f (first_midnight c (x ∷ xs)) (get_or (x ∷ xs) k d) - first_bin c f (x ∷ xs))
few_from c (freq.Seconds width) x xs k d some h most time s =
    let place : suc (length xs) - 1 ≡ length xs = omega arith in
    let up : get_or (x ∷ xs) k d ≤ℤ get_or (x ∷ xs) (suc (length xs) - 1) (pos 0) = subst (λ i. get_or (x ∷ xs) k d ≤ℤ get_or (x ∷ xs) i (pos 0)) (sym place) (at_most_last x xs k d (pos 0) h s) in
    let later = later_bin width (first_midnight c (x ∷ xs)) (seconds_since c (get_or (x ∷ xs) k d)) (seconds_since c (get_or (x ∷ xs) (suc (length xs) - 1) (pos 0))) some (since_up c (get_or (x ∷ xs) k d) (get_or (x ∷ xs) (suc (length xs) - 1) (pos 0)) time up) in
    few_steps (bin_number c (freq.Seconds width) (first_midnight c (x ∷ xs)) (get_or (x ∷ xs) k d)) (last_bin c (freq.Seconds width) (x ∷ xs)) (first_bin c (freq.Seconds width) (x ∷ xs)) later
    (subst (λ v. v ≤ 33554432) (counted (length xs) (last_bin c (freq.Seconds width) (x ∷ xs) - first_bin c (freq.Seconds width) (x ∷ xs) + 1)) most)
few_from c freq.Months x xs k d some h most time s = tt
few_from c freq.Years x xs k d some h most time s = tt

pub few : (c : Calendar) (f : Freq) (ts : List ℤ) (m low count k : ℕ) (d : ℤ) → IsFreq f → rises ts ≡ true → m ≡ first_midnight c ts → low ≡ first_bin c f ts → count ≡ bin_count c f ts → count ≤ 33554432 → IsTime c (get_or ts k d) → k < length ts → IsFew f (bin_number c f m (get_or ts k d) - low)
few c f [] m low count k d some h em el ec most time s = absurd (omega arith)
few c f (x ∷ xs) m low count k d some h em el ec most time s =
    subst (λ a. IsFew f (bin_number c f a (get_or (x ∷ xs) k d) - low)) (sym em) (subst (λ b. IsFew f (bin_number c f (first_midnight c (x ∷ xs)) (get_or (x ∷ xs) k d) - b)) (sym el) (few_from c f x xs k d some h (omega (arith, ec, most)) time s))
