-- Date texts that are spelled from parts are read, and stand for what the reader gives.
use Rattle.std.proofs.Common.{◌≡◌, ◌==◌, ◌&&◌, ◌||◌, ◌⊎◌, ◌↔◌, ℕ, ◌+◌, ◌*◌, ◌<◌, ◌≤◌, true, List, [], ◌∷◌, length, codes, Option, Some, None, refl, sym, ap, subst, ◌∙◌, inl, inr, arith, nat_le, nat_lt}
use Rattle.std.proofs.lemmas.Bool.{and_from, or_cases, or_left, or_right, le-leb, lt-ltb, eq-eqb}
use Rattle.xr_types.specs.declared.axis.Calendar.{Calendar}
use Rattle.xr_times.specs.declared.time.Period.{Period}
use Rattle.xr_times.specs.Times.{month_days, time_of, is_digit, has_year, has_month, has_day, has_clock, period, moment, date_period}
use Rattle.xr_times.specs.Units.{is_blank}
use Rattle.unit_spellings.specs.Spellings.{AreDigits, number}
use Rattle.unit_spellings.specs.DateTexts.{DateParts, Year, Month, Day, Second, IsDayOf, IsTimeOfDay, AreDateParts, IsDateText, date_spelled, period_of}
use Rattle.unit_spellings.proofs.Digits.{on_two, on_four_alone, two, value_two, value_four, two_digits, first_digits, last_digits}
use Rattle.unit_spellings.proofs.DatesTaken.{same_time, date_text_taken}

digits_length : (n : ℕ) (t : List ℕ) → AreDigits n n t → length t ≡ n
digits_length n t h =
    let from : n ≤ length t = h.from in
    let to : length t ≤ n = h.to in
    omega arith

-- ---- what stands at the places

year_value : (k : Calendar) (a b c d : ℕ) (m n : List ℕ) → IsDayOf k (a ∷ b ∷ c ∷ d ∷ []) m n → number (a ∷ b ∷ c ∷ d ∷ []) ≡ 100 * two a b + two c d
year_value k a b c d m n h = value_four a b c d (first_digits a b c d h.year) (last_digits a b c d h.year)

year_there : (k : Calendar) (a b c d : ℕ) (m n r : List ℕ) → IsDayOf k (a ∷ b ∷ c ∷ d ∷ []) m n → has_year (a ∷ b ∷ c ∷ d ∷ r) ≡ true
year_there k a b c d m n r h =
    let low : 1 ≤ 100 * two a b + two c d = subst (λ (y : ℕ). 1 ≤ y) (year_value k a b c d m n h) h.date.year_from in
    and_from ((is_digit a && is_digit b) && (is_digit c && is_digit d)) (nat_le 1 (100 * two a b + two c d))
    (and_from (is_digit a && is_digit b) (is_digit c && is_digit d) (first_digits a b c d h.year) (last_digits a b c d h.year)) (le-leb 1 (100 * two a b + two c d) low)

month_value : (k : Calendar) (y : List ℕ) (e f : ℕ) (n : List ℕ) → IsDayOf k y (e ∷ f ∷ []) n → number (e ∷ f ∷ []) ≡ two e f
month_value k y e f n h = value_two e f (two_digits e f h.month)

month_there : (k : Calendar) (a b c d e f : ℕ) (y n r : List ℕ) → IsDayOf k y (e ∷ f ∷ []) n → has_month (a ∷ b ∷ c ∷ d ∷ 45 ∷ e ∷ f ∷ r) ≡ true
month_there k a b c d e f y n r h =
    let low : 1 ≤ two e f = subst (λ (m : ℕ). 1 ≤ m) (month_value k y e f n h) h.date.month_from in
    let high : two e f ≤ 12 = subst (λ (m : ℕ). m ≤ 12) (month_value k y e f n h) h.date.month_to in
    and_from ((is_digit e && is_digit f) && nat_le 1 (two e f)) (nat_le (two e f) 12)
    (and_from (is_digit e && is_digit f) (nat_le 1 (two e f)) (two_digits e f h.month) (le-leb 1 (two e f) low)) (le-leb (two e f) 12 high)

day_value : (k : Calendar) (y m : List ℕ) (g h : ℕ) → IsDayOf k y m (g ∷ h ∷ []) → number (g ∷ h ∷ []) ≡ two g h
day_value k y m g h q = value_two g h (two_digits g h q.day)

day_there : (k : Calendar) (a b c d e f g h : ℕ) (r : List ℕ) → IsDayOf k (a ∷ b ∷ c ∷ d ∷ []) (e ∷ f ∷ []) (g ∷ h ∷ []) → has_day k (a ∷ b ∷ c ∷ d ∷ 45 ∷ e ∷ f ∷ 45 ∷ g ∷ h ∷ r) ≡ true
day_there k a b c d e f g h r q =
    let year = year_value k a b c d (e ∷ f ∷ []) (g ∷ h ∷ []) q in
    let month = month_value k (a ∷ b ∷ c ∷ d ∷ []) e f (g ∷ h ∷ []) q in
    let day = day_value k (a ∷ b ∷ c ∷ d ∷ []) (e ∷ f ∷ []) g h q in
    let low : 1 ≤ two g h = subst (λ (n : ℕ). 1 ≤ n) day q.date.day_from in
    let high : two g h ≤ month_days k (100 * two a b + two c d) (two e f) =
    subst (λ (n : ℕ). n ≤ month_days k (100 * two a b + two c d) (two e f)) day
    (subst (λ (n : ℕ). number (g ∷ h ∷ []) ≤ month_days k (100 * two a b + two c d) n) month (subst (λ (n : ℕ). number (g ∷ h ∷ []) ≤ month_days k n (number (e ∷ f ∷ []))) year q.date.day_to)) in
    and_from ((is_digit g && is_digit h) && nat_le 1 (two g h)) (nat_le (two g h) (month_days k (100 * two a b + two c d) (two e f)))
    (and_from (is_digit g && is_digit h) (nat_le 1 (two g h)) (two_digits g h q.day) (le-leb 1 (two g h) low)) (le-leb (two g h) (month_days k (100 * two a b + two c d) (two e f)) high)

mark_there : (z : ℕ) → (z ≡ 84) ⊎ (is_blank z ≡ true) → ((z == 84) || (z == 32) || (z == 9)) ≡ true
mark_there z (inl h) = or_left ((z == 84) || (z == 32)) (z == 9) (or_left (z == 84) (z == 32) (eq-eqb z 84 h))
mark_there z (inr h) = elim (or_cases (z == 32) (z == 9) h) [
  | inl e ↦ or_left ((z == 84) || (z == 32)) (z == 9) (or_right (z == 84) (z == 32) e)
  | inr e ↦ or_right ((z == 84) || (z == 32)) (z == 9) e
]

below : (a b n : ℕ) → AreDigits 2 2 (a ∷ b ∷ []) → number (a ∷ b ∷ []) < n → nat_lt (two a b) n ≡ true
below a b n h l = lt-ltb (two a b) n (subst (λ (m : ℕ). m < n) (value_two a b (two_digits a b h)) l)

clock_there : (a b c d e f g h z i j o l m n : ℕ) → IsTimeOfDay z (i ∷ j ∷ []) (o ∷ l ∷ []) (m ∷ n ∷ [])
    → has_clock (a ∷ b ∷ c ∷ d ∷ 45 ∷ e ∷ f ∷ 45 ∷ g ∷ h ∷ z ∷ i ∷ j ∷ 58 ∷ o ∷ l ∷ 58 ∷ m ∷ n ∷ []) ≡ true
unfolding has_clock
clock_there a b c d e f g h z i j o l m n q =
    rw (mark_there z q.mark, two_digits i j q.hour, two_digits o l q.minute, two_digits m n q.second, below i j 24 q.hour q.hours, below o l 60 q.minute q.minutes, below m n 60 q.second q.seconds) refl

-- ---- the four forms

abbrev IsRead : Calendar → DateParts → Type 0
IsRead k p = AreDateParts k p → date_period k (date_spelled p) ≡ Some (period_of k p)

year_read : (k : Calendar) (a b c d : ℕ) → IsRead k (Year (a ∷ b ∷ c ∷ d ∷ []))
year_read k a b c d h = rw (year_there k a b c d (codes "01") (codes "01") [] h) (ap (λ (n : ℕ). Some (period k n 1 1 12 (month_days k n 12))) (sym (year_value k a b c d (codes "01") (codes "01") h)))

month_read : (k : Calendar) (a b c d e f : ℕ) → IsRead k (Month (a ∷ b ∷ c ∷ d ∷ []) (e ∷ f ∷ []))
month_read k a b c d e f h =
    let year = year_value k a b c d (e ∷ f ∷ []) (codes "01") h in
    let month = month_value k (a ∷ b ∷ c ∷ d ∷ []) e f (codes "01") h in
    rw (year_there k a b c d (e ∷ f ∷ []) (codes "01") (45 ∷ e ∷ f ∷ []) h, month_there k a b c d e f (a ∷ b ∷ c ∷ d ∷ []) (codes "01") [] h)
    (same_time (λ (y' m' d' : ℕ). Some (period k y' m' 1 m' (month_days k y' m'))) _ _ 1 _ _ 1 year month refl)

day_read : (k : Calendar) (a b c d e f g h : ℕ) → IsRead k (Day (a ∷ b ∷ c ∷ d ∷ []) (e ∷ f ∷ []) (g ∷ h ∷ []))
day_read k a b c d e f g h q =
    let y : List ℕ = a ∷ b ∷ c ∷ d ∷ [] in
    let year = year_value k a b c d (e ∷ f ∷ []) (g ∷ h ∷ []) q in
    let month = month_value k y e f (g ∷ h ∷ []) q in
    let day = day_value k y (e ∷ f ∷ []) g h q in
    rw (year_there k a b c d (e ∷ f ∷ []) (g ∷ h ∷ []) (45 ∷ e ∷ f ∷ 45 ∷ g ∷ h ∷ []) q, month_there k a b c d e f y (g ∷ h ∷ []) (45 ∷ g ∷ h ∷ []) q, day_there k a b c d e f g h [] q)
    (same_time (λ (y' m' d' : ℕ). Some (period k y' m' d' m' d')) _ _ _ _ _ _ year month day)

second_read : (k : Calendar) (a b c d e f g h z i j o l m n : ℕ) → IsRead k (Second (a ∷ b ∷ c ∷ d ∷ []) (e ∷ f ∷ []) (g ∷ h ∷ []) z (i ∷ j ∷ []) (o ∷ l ∷ []) (m ∷ n ∷ []))
second_read k a b c d e f g h z i j o l m n (q, s) =
    let y : List ℕ = a ∷ b ∷ c ∷ d ∷ [] in
    let behind : List ℕ = z ∷ i ∷ j ∷ 58 ∷ o ∷ l ∷ 58 ∷ m ∷ n ∷ [] in
    let year = year_value k a b c d (e ∷ f ∷ []) (g ∷ h ∷ []) q in
    let month = month_value k y e f (g ∷ h ∷ []) q in
    let day = day_value k y (e ∷ f ∷ []) g h q in
    let hour = value_two i j (two_digits i j s.hour) in
    let minute = value_two o l (two_digits o l s.minute) in
    let second = value_two m n (two_digits m n s.second) in
    rw (year_there k a b c d (e ∷ f ∷ []) (g ∷ h ∷ []) (45 ∷ e ∷ f ∷ 45 ∷ g ∷ h ∷ behind) q, month_there k a b c d e f y (g ∷ h ∷ []) (45 ∷ g ∷ h ∷ behind) q, day_there k a b c d e f g h behind q, clock_there a b c d e f g h z i j o l m n s)
    (same_time (λ (y' m' d' : ℕ). Some (moment (time_of k y' m' d' (two i j) (two o l) (two m n)))) _ _ _ _ _ _ year month day
    ∙ same_time (λ (h' m' s' : ℕ). Some (moment (time_of k (number y) (number (e ∷ f ∷ [])) (number (g ∷ h ∷ [])) h' m' s'))) _ _ _ _ _ _ hour minute second)

date_parts_read : (k : Calendar) (p : DateParts) → IsRead k p
date_parts_read k (Year y) l = on_four_alone (λ (y : List ℕ). IsRead k (Year y)) (year_read k) y (digits_length 4 y l.year) l
date_parts_read k (Month y m) l =
    on_four_alone (λ (y : List ℕ). IsRead k (Month y m)) (λ a b c d. on_two (λ (m : List ℕ). IsRead k (Month (a ∷ b ∷ c ∷ d ∷ []) m)) (month_read k a b c d) m (digits_length 2 m l.month)) y (digits_length 4 y l.year) l
date_parts_read k (Day y m n) l =
    on_four_alone (λ (y : List ℕ). IsRead k (Day y m n)) (λ a b c d.
    on_two (λ (m : List ℕ). IsRead k (Day (a ∷ b ∷ c ∷ d ∷ []) m n)) (λ e f.
    on_two (λ (n : List ℕ). IsRead k (Day (a ∷ b ∷ c ∷ d ∷ []) (e ∷ f ∷ []) n)) (day_read k a b c d e f) n (digits_length 2 n l.day)) m (digits_length 2 m l.month)) y (digits_length 4 y l.year) l
date_parts_read k (Second y m n z h o s) l =
    on_four_alone (λ (y : List ℕ). IsRead k (Second y m n z h o s)) (λ a b c d.
    on_two (λ (m : List ℕ). IsRead k (Second (a ∷ b ∷ c ∷ d ∷ []) m n z h o s)) (λ e f.
    on_two (λ (n : List ℕ). IsRead k (Second (a ∷ b ∷ c ∷ d ∷ []) (e ∷ f ∷ []) n z h o s)) (λ g g'.
    on_two (λ (h : List ℕ). IsRead k (Second (a ∷ b ∷ c ∷ d ∷ []) (e ∷ f ∷ []) (g ∷ g' ∷ []) z h o s)) (λ i j.
    on_two (λ (o : List ℕ). IsRead k (Second (a ∷ b ∷ c ∷ d ∷ []) (e ∷ f ∷ []) (g ∷ g' ∷ []) z (i ∷ j ∷ []) o s)) (λ o o'.
    on_two (λ (s : List ℕ). IsRead k (Second (a ∷ b ∷ c ∷ d ∷ []) (e ∷ f ∷ []) (g ∷ g' ∷ []) z (i ∷ j ∷ []) (o ∷ o' ∷ []) s)) (second_read k a b c d e f g g' z i j o o')
    s (digits_length 2 s l.1.second)) o (digits_length 2 o l.1.minute)) h (digits_length 2 h l.1.hour)) n (digits_length 2 n l.0.day)) m (digits_length 2 m l.0.month)) y (digits_length 4 y l.0.year) l

date_text_read : (k : Calendar) (t : List ℕ) (p : Period) → IsDateText k t p → date_period k t ≡ Some p
date_text_read k t p h = ap (date_period k) h.spelling ∙ (date_parts_read k h.parts h.lawful ∙ ap Some (sym h.times))

-- ---- the laws

pub date_exact : (k : Calendar) (t : List ℕ) (p : Period) → (date_period k t ≡ Some p) ↔ IsDateText k t p
date_exact k t p = (date_text_taken k t p, date_text_read k t p)

pub other_dates : (k : Calendar) (t : List ℕ) → (date_period k t ≡ None) ↔ ((p : Period) → IsDateText k t p → ⊥)
other_dates k t = (refused, unspelled (date_period k t) refl)
  where
    refused : date_period k t ≡ None → (p : Period) → IsDateText k t p → ⊥
    refused e p h = let some : date_period k t ≡ Some p = date_text_read k t p h in cc

    unspelled : (o : Option Period) → date_period k t ≡ o → ((p : Period) → IsDateText k t p → ⊥) → date_period k t ≡ None
    unspelled None e h = e
    unspelled (Some p) e h = absurd (h p (date_text_taken k t p e))

pub one_period : (k : Calendar) (t : List ℕ) (p q : Period) → IsDateText k t p → IsDateText k t q → p ≡ q
one_period k t p q h i =
    let a : date_period k t ≡ Some p = date_text_read k t p h in
    let b : date_period k t ≡ Some q = date_text_read k t q i in
    cc
