-- Date texts that the reader takes are spelled from parts.
use Rattle.std.proofs.Common.{◌≡◌, ◌==◌, ◌&&◌, ◌||◌, ◌⊎◌, ℕ, ◌+◌, ◌*◌, ◌<◌, ◌≤◌, Bool, true, false, if◌then◌else◌, List, [], ◌∷◌, length, codes, Some, None, refl, sym, ap, subst, ◌∙◌, inl, inr, arith, nat_le, nat_lt}
use Rattle.std.proofs.lemmas.Bool.{and_parts, or_cases, or_left, or_right, leb-true, ltb-true, eqb-true}
use Rattle.xr_types.specs.declared.axis.Calendar.{Calendar}
use Rattle.xr_types.specs.declared.axis.Calendar.TheVariants.{Civil, NoLeap, Days360}
use Rattle.xr_times.specs.declared.time.Period.{Period}
use Rattle.xr_times.specs.Times.{IsDate, is_leap, month_days, time_of, is_digit, has_year, has_month, has_day, has_clock, period, moment, year_period, month_period, day_period, second_period, date_period}
use Rattle.xr_times.specs.Units.{is_blank}
use Rattle.unit_spellings.specs.Spellings.{AreDigits, number}
use Rattle.unit_spellings.specs.DateTexts.{Year, Month, Day, Second, IsDayOf, IsDateText}
use Rattle.unit_spellings.proofs.Fronts.{if_some, then_some, either_some}
use Rattle.unit_spellings.proofs.Digits.{on_four_alone, on_seven, on_ten, on_nineteen, two, value_two, value_four, digits_two, digits_four}

-- ---- what stands at the places

pub record IsYear (a b c d : ℕ) : Type 0 where
  pub first : (is_digit a && is_digit b) ≡ true
  pub last : (is_digit c && is_digit d) ≡ true
  pub low : 1 ≤ 100 * two a b + two c d

year_here : (a b c d : ℕ) (r : List ℕ) → has_year (a ∷ b ∷ c ∷ d ∷ r) ≡ true → IsYear a b c d
year_here a b c d r e =
    let g = and_parts ((is_digit a && is_digit b) && (is_digit c && is_digit d)) (nat_le 1 (100 * two a b + two c d)) e in
    let h = and_parts (is_digit a && is_digit b) (is_digit c && is_digit d) g.0 in
    record { first = h.0; last = h.1; low = leb-true _ _ g.1 }

pub record IsMonth (x e f : ℕ) : Type 0 where
  pub dash : x ≡ 45
  pub digits : (is_digit e && is_digit f) ≡ true
  pub low : 1 ≤ two e f
  pub high : two e f ≤ 12

month_here : (a b c d x e f : ℕ) (r : List ℕ) → has_month (a ∷ b ∷ c ∷ d ∷ x ∷ e ∷ f ∷ r) ≡ true → IsMonth x e f
month_here a b c d x e f r h =
    let g = and_parts ((x == 45) && (is_digit e && is_digit f) && nat_le 1 (two e f)) (nat_le (two e f) 12) h in
    let i = and_parts ((x == 45) && (is_digit e && is_digit f)) (nat_le 1 (two e f)) g.0 in
    let j = and_parts (x == 45) (is_digit e && is_digit f) i.0 in
    record { dash = eqb-true x 45 j.0; digits = j.1; low = leb-true _ _ i.1; high = leb-true _ _ g.1 }

pub record IsDayHere (k : Calendar) (a b c d e f y g h : ℕ) : Type 0 where
  pub dash : y ≡ 45
  pub digits : (is_digit g && is_digit h) ≡ true
  pub low : 1 ≤ two g h
  pub high : two g h ≤ month_days k (100 * two a b + two c d) (two e f)

day_here : (k : Calendar) (a b c d x e f y g h : ℕ) (r : List ℕ) → has_day k (a ∷ b ∷ c ∷ d ∷ x ∷ e ∷ f ∷ y ∷ g ∷ h ∷ r) ≡ true → IsDayHere k a b c d e f y g h
day_here k a b c d x e f y g h r q =
    let n : ℕ = month_days k (100 * two a b + two c d) (two e f) in
    let i = and_parts ((y == 45) && (is_digit g && is_digit h) && nat_le 1 (two g h)) (nat_le (two g h) (month_days k (100 * two a b + two c d) (two e f))) q in
    let j = and_parts ((y == 45) && (is_digit g && is_digit h)) (nat_le 1 (two g h)) i.0 in
    let l = and_parts (y == 45) (is_digit g && is_digit h) j.0 in
    record { dash = eqb-true y 45 l.0; digits = l.1; low = leb-true _ _ j.1; high = leb-true _ _ i.1 }

pub record IsClockHere (z i j u k l v m n : ℕ) : Type 0 where
  pub mark : (z ≡ 84) ⊎ (is_blank z ≡ true)
  pub hour : (is_digit i && is_digit j) ≡ true
  pub colon : u ≡ 58
  pub minute : (is_digit k && is_digit l) ≡ true
  pub point : v ≡ 58
  pub second : (is_digit m && is_digit n) ≡ true
  pub hours : two i j < 24
  pub minutes : two k l < 60
  pub seconds : two m n < 60

mark_here : (z : ℕ) → ((z == 84) || (z == 32) || (z == 9)) ≡ true → (z ≡ 84) ⊎ (is_blank z ≡ true)
mark_here z h = elim (or_cases ((z == 84) || (z == 32)) (z == 9) h) [
  | inl p ↦ elim (or_cases (z == 84) (z == 32) p) [ inl q ↦ inl (eqb-true z 84 q) | inr q ↦ inr (or_left (z == 32) (z == 9) q) ]
  | inr p ↦ inr (or_right (z == 32) (z == 9) p)
]

clock_here : (a b c d x e f y g h z i j u k l v m n : ℕ) → has_clock (a ∷ b ∷ c ∷ d ∷ x ∷ e ∷ f ∷ y ∷ g ∷ h ∷ z ∷ i ∷ j ∷ u ∷ k ∷ l ∷ v ∷ m ∷ n ∷ []) ≡ true → IsClockHere z i j u k l v m n
unfolding has_clock
clock_here a b c d x e f y g h z i j u k l v m n q =
    let mark : Bool = (z == 84) || (z == 32) || (z == 9) in
    let p = and_parts (((z == 84) || (z == 32) || (z == 9)) && (is_digit i && is_digit j) && (u == 58) && (is_digit k && is_digit l) && (v == 58) && (is_digit m && is_digit n) && nat_lt (two i j) 24 && nat_lt (two k l) 60) (nat_lt (two m n) 60) q in
    let o = and_parts (((z == 84) || (z == 32) || (z == 9)) && (is_digit i && is_digit j) && (u == 58) && (is_digit k && is_digit l) && (v == 58) && (is_digit m && is_digit n) && nat_lt (two i j) 24) (nat_lt (two k l) 60) p.0 in
    let w = and_parts (((z == 84) || (z == 32) || (z == 9)) && (is_digit i && is_digit j) && (u == 58) && (is_digit k && is_digit l) && (v == 58) && (is_digit m && is_digit n)) (nat_lt (two i j) 24) o.0 in
    let s = and_parts (((z == 84) || (z == 32) || (z == 9)) && (is_digit i && is_digit j) && (u == 58) && (is_digit k && is_digit l) && (v == 58)) (is_digit m && is_digit n) w.0 in
    let t = and_parts (((z == 84) || (z == 32) || (z == 9)) && (is_digit i && is_digit j) && (u == 58) && (is_digit k && is_digit l)) (v == 58) s.0 in
    let ss = and_parts (((z == 84) || (z == 32) || (z == 9)) && (is_digit i && is_digit j) && (u == 58)) (is_digit k && is_digit l) t.0 in
    let tt' = and_parts (((z == 84) || (z == 32) || (z == 9)) && (is_digit i && is_digit j)) (u == 58) ss.0 in
    let uu = and_parts ((z == 84) || (z == 32) || (z == 9)) (is_digit i && is_digit j) tt'.0 in
    record {
      mark = mark_here z uu.0;
      hour = uu.1;
      colon = eqb-true u 58 tt'.1;
      minute = ss.1;
      point = eqb-true v 58 t.1;
      second = s.1;
      hours = ltb-true _ _ w.1;
      minutes = ltb-true _ _ o.1;
      seconds = ltb-true _ _ p.1;
    }

-- ---- dates

-- a month has a day
either_day : (t : Bool) (m n : ℕ) → 1 ≤ m → 1 ≤ n → 1 ≤ (if t then m else n)
either_day true m n f g = f
either_day false m n f g = g

pub some_days : (c : Calendar) (y m : ℕ) → 1 ≤ month_days c y m
some_days Civil y m = either_day (m == 2) _ _ (either_day (is_leap y) 29 28 (omega arith) (omega arith)) (either_day ((m == 4) || (m == 6) || (m == 9) || (m == 11)) 30 31 (omega arith) (omega arith))
some_days NoLeap y m = either_day (m == 2) 28 _ (omega arith) (either_day ((m == 4) || (m == 6) || (m == 9) || (m == 11)) 30 31 (omega arith) (omega arith))
some_days Days360 y m = omega arith

at_most_57 : (a : ℕ) → is_digit a ≡ true → a ≤ 57
at_most_57 a h = leb-true a 57 (and_parts (nat_le 48 a) (nat_le a 57) h).1

four_at_most : (a b c d : ℕ) → IsYear a b c d → 100 * two a b + two c d ≤ 9999
four_at_most a b c d h =
    let g = and_parts (is_digit a) (is_digit b) h.first in
    let i = and_parts (is_digit c) (is_digit d) h.last in
    let p : a ≤ 57 = at_most_57 a g.0 in
    let q : b ≤ 57 = at_most_57 b g.1 in
    let r : c ≤ 57 = at_most_57 c i.0 in
    let s : d ≤ 57 = at_most_57 d i.1 in
    omega arith

-- a date whose month and day are known by their digits
is_day_of : (k : Calendar) (a b c d : ℕ) (m n : List ℕ) → IsYear a b c d → AreDigits 2 2 m → AreDigits 2 2 n → 1 ≤ number m → number m ≤ 12 → 1 ≤ number n → number n ≤ month_days k (100 * two a b + two c d) (number m)
    → IsDayOf k (a ∷ b ∷ c ∷ d ∷ []) m n
is_day_of k a b c d m n hy hm hn lm um ln un =
    let value : number (a ∷ b ∷ c ∷ d ∷ []) ≡ 100 * two a b + two c d = value_four a b c d hy.first hy.last in
    let low : 1 ≤ 100 * two a b + two c d = hy.low in
    let high : 100 * two a b + two c d ≤ 9999 = four_at_most a b c d hy in
    let there : IsDate k (100 * two a b + two c d) (number m) (number n) = record { year_from = low; year_to = high; month_from = lm; month_to = um; day_from = ln; day_to = un } in
    record { year = digits_four a b c d hy.first hy.last; month = hm; day = hn; date = subst (λ (y : ℕ). IsDate k y (number m) (number n)) (sym value) there }

first_day : AreDigits 2 2 (codes "01")
first_day = record { from = omega arith; to = omega arith; digits = refl }

-- ---- the four forms

year_taken : (k : Calendar) (p : Period) (a b c d : ℕ) → year_period k (a ∷ b ∷ c ∷ d ∷ []) ≡ Some p → IsDateText k (a ∷ b ∷ c ∷ d ∷ []) p
year_taken k p a b c d e =
    let t : List ℕ = a ∷ b ∷ c ∷ d ∷ [] in
    let i = if_some (has_year (a ∷ b ∷ c ∷ d ∷ [])) (period k (100 * two a b + two c d) 1 1 12 (month_days k (100 * two a b + two c d) 12)) p e in
    let hy : IsYear a b c d = year_here a b c d [] i.0 in
    let value : number (a ∷ b ∷ c ∷ d ∷ []) ≡ 100 * two a b + two c d = value_four a b c d hy.first hy.last in
    record {
      parts = Year (a ∷ b ∷ c ∷ d ∷ []);
      lawful = is_day_of k a b c d (codes "01") (codes "01") hy first_day first_day (omega arith) (omega arith) (omega arith) (some_days k (100 * two a b + two c d) 1);
      spelling = refl;
      times = sym i.1 ∙ ap (λ (y : ℕ). period k y 1 1 12 (month_days k y 12)) (sym value);
    }

month_taken : (k : Calendar) (p : Period) (a b c d x e f : ℕ) → month_period k (a ∷ b ∷ c ∷ d ∷ x ∷ e ∷ f ∷ []) ≡ Some p → IsDateText k (a ∷ b ∷ c ∷ d ∷ x ∷ e ∷ f ∷ []) p
month_taken k p a b c d x e f q =
    let made : Period = period k (100 * two a b + two c d) (two e f) 1 (two e f) (month_days k (100 * two a b + two c d) (two e f)) in
    let i = then_some (has_year (a ∷ b ∷ c ∷ d ∷ x ∷ e ∷ f ∷ [])) (if has_month (a ∷ b ∷ c ∷ d ∷ x ∷ e ∷ f ∷ []) then Some made else None) p q in
    let j = if_some (has_month (a ∷ b ∷ c ∷ d ∷ x ∷ e ∷ f ∷ [])) made p i.1 in
    let hy : IsYear a b c d = year_here a b c d (x ∷ e ∷ f ∷ []) i.0 in
    let hm : IsMonth x e f = month_here a b c d x e f [] j.0 in
    let year : number (a ∷ b ∷ c ∷ d ∷ []) ≡ 100 * two a b + two c d = value_four a b c d hy.first hy.last in
    let month : number (e ∷ f ∷ []) ≡ two e f = value_two e f hm.digits in
    let low : 1 ≤ two e f = hm.low in
    let high : two e f ≤ 12 = hm.high in
    record {
      parts = Month (a ∷ b ∷ c ∷ d ∷ []) (e ∷ f ∷ []);
      lawful = is_day_of k a b c d (e ∷ f ∷ []) (codes "01") hy (digits_two e f hm.digits) first_day (rw month low) (rw month high) (omega arith) (some_days k (100 * two a b + two c d) (number (e ∷ f ∷ [])));
      spelling = ap (λ (z : ℕ). a ∷ b ∷ c ∷ d ∷ z ∷ e ∷ f ∷ []) hm.dash;
      times = sym j.1 ∙ (ap (λ (y : ℕ). period k y (two e f) 1 (two e f) (month_days k y (two e f))) (sym year) ∙ ap (λ (m : ℕ). period k (number (a ∷ b ∷ c ∷ d ∷ [])) m 1 m (month_days k (number (a ∷ b ∷ c ∷ d ∷ [])) m)) (sym month));
    }

-- a date with its day, and what is behind it
pub record DayTaken (k : Calendar) (a b c d x e f y g h : ℕ) : Type 0 where
  pub first_dash : x ≡ 45
  pub second_dash : y ≡ 45
  pub date : IsDayOf k (a ∷ b ∷ c ∷ d ∷ []) (e ∷ f ∷ []) (g ∷ h ∷ [])
  pub year : number (a ∷ b ∷ c ∷ d ∷ []) ≡ 100 * two a b + two c d
  pub month : number (e ∷ f ∷ []) ≡ two e f
  pub day : number (g ∷ h ∷ []) ≡ two g h

day_of : (k : Calendar) (a b c d x e f y g h : ℕ) → IsYear a b c d → IsMonth x e f → IsDayHere k a b c d e f y g h → DayTaken k a b c d x e f y g h
day_of k a b c d x e f y g h hy hm hd =
    let month : number (e ∷ f ∷ []) ≡ two e f = value_two e f hm.digits in
    let day : number (g ∷ h ∷ []) ≡ two g h = value_two g h hd.digits in
    let low : 1 ≤ two e f = hm.low in
    let high : two e f ≤ 12 = hm.high in
    let from : 1 ≤ two g h = hd.low in
    let to : two g h ≤ month_days k (100 * two a b + two c d) (two e f) = hd.high in
    record {
      first_dash = hm.dash;
      second_dash = hd.dash;
      date = is_day_of k a b c d (e ∷ f ∷ []) (g ∷ h ∷ []) hy (digits_two e f hm.digits) (digits_two g h hd.digits) (rw month low) (rw month high) (rw day from) (rw (day, month) to);
      year = value_four a b c d hy.first hy.last;
      month = month;
      day = day;
    }

-- numbers in place of digits
pub same_time : {A : Type 0} (f : ℕ → ℕ → ℕ → A) (y m d y' m' d' : ℕ) → y ≡ y' → m ≡ m' → d ≡ d' → f y' m' d' ≡ f y m d
same_time f y m d y' m' d' p q r = cc

day_taken : (k : Calendar) (p : Period) (a b c d x e f y g h : ℕ) → day_period k (a ∷ b ∷ c ∷ d ∷ x ∷ e ∷ f ∷ y ∷ g ∷ h ∷ []) ≡ Some p → IsDateText k (a ∷ b ∷ c ∷ d ∷ x ∷ e ∷ f ∷ y ∷ g ∷ h ∷ []) p
day_taken k p a b c d x e f y g h q =
    let t : List ℕ = a ∷ b ∷ c ∷ d ∷ x ∷ e ∷ f ∷ y ∷ g ∷ h ∷ [] in
    let made : Period = period k (100 * two a b + two c d) (two e f) (two g h) (two e f) (two g h) in
    let i = then_some (has_year t) (if has_month t then (if has_day k t then Some made else None) else None) p q in
    let j = then_some (has_month t) (if has_day k t then Some made else None) p i.1 in
    let l = if_some (has_day k t) made p j.1 in
    let day : DayTaken k a b c d x e f y g h = day_of k a b c d x e f y g h (year_here a b c d (x ∷ e ∷ f ∷ y ∷ g ∷ h ∷ []) i.0) (month_here a b c d x e f (y ∷ g ∷ h ∷ []) j.0) (day_here k a b c d x e f y g h [] l.0) in
    record {
      parts = Day (a ∷ b ∷ c ∷ d ∷ []) (e ∷ f ∷ []) (g ∷ h ∷ []);
      lawful = day.date;
      spelling = ap (λ (z : ℕ). a ∷ b ∷ c ∷ d ∷ z ∷ e ∷ f ∷ y ∷ g ∷ h ∷ []) day.first_dash ∙ ap (λ (z : ℕ). a ∷ b ∷ c ∷ d ∷ 45 ∷ e ∷ f ∷ z ∷ g ∷ h ∷ []) day.second_dash;
      times = sym l.1 ∙ same_time (λ (y m d : ℕ). period k y m d m d) _ _ _ _ _ _ day.year day.month day.day;
    }

second_taken : (k : Calendar) (p : Period) (a b c d x e f y g h z i j u o l v m n : ℕ) → second_period k (a ∷ b ∷ c ∷ d ∷ x ∷ e ∷ f ∷ y ∷ g ∷ h ∷ z ∷ i ∷ j ∷ u ∷ o ∷ l ∷ v ∷ m ∷ n ∷ []) ≡ Some p
    → IsDateText k (a ∷ b ∷ c ∷ d ∷ x ∷ e ∷ f ∷ y ∷ g ∷ h ∷ z ∷ i ∷ j ∷ u ∷ o ∷ l ∷ v ∷ m ∷ n ∷ []) p
second_taken k p a b c d x e f y g h z i j u o l v m n q =
    let behind : List ℕ = z ∷ i ∷ j ∷ u ∷ o ∷ l ∷ v ∷ m ∷ n ∷ [] in
    let t : List ℕ = a ∷ b ∷ c ∷ d ∷ x ∷ e ∷ f ∷ y ∷ g ∷ h ∷ behind in
    let made : Period = moment (time_of k (100 * two a b + two c d) (two e f) (two g h) (two i j) (two o l) (two m n)) in
    let r = then_some (has_year t) (if has_month t then (if has_day k t then (if has_clock t then Some made else None) else None) else None) p q in
    let s = then_some (has_month t) (if has_day k t then (if has_clock t then Some made else None) else None) p r.1 in
    let w = then_some (has_day k t) (if has_clock t then Some made else None) p s.1 in
    let last = if_some (has_clock t) made p w.1 in
    let day : DayTaken k a b c d x e f y g h = day_of k a b c d x e f y g h (year_here a b c d (x ∷ e ∷ f ∷ y ∷ g ∷ h ∷ behind) r.0) (month_here a b c d x e f (y ∷ g ∷ h ∷ behind) s.0) (day_here k a b c d x e f y g h behind w.0) in
    let clock : IsClockHere z i j u o l v m n = clock_here a b c d x e f y g h z i j u o l v m n last.0 in
    let hour : number (i ∷ j ∷ []) ≡ two i j = value_two i j clock.hour in
    let minute : number (o ∷ l ∷ []) ≡ two o l = value_two o l clock.minute in
    let second : number (m ∷ n ∷ []) ≡ two m n = value_two m n clock.second in
    let hours : two i j < 24 = clock.hours in
    let minutes : two o l < 60 = clock.minutes in
    let seconds : two m n < 60 = clock.seconds in
    record {
      parts = Second (a ∷ b ∷ c ∷ d ∷ []) (e ∷ f ∷ []) (g ∷ h ∷ []) z (i ∷ j ∷ []) (o ∷ l ∷ []) (m ∷ n ∷ []);
      lawful = (day.date, record { mark = clock.mark; hour = digits_two i j clock.hour; minute = digits_two o l clock.minute; second = digits_two m n clock.second; hours = rw hour hours; minutes = rw minute minutes; seconds = rw second seconds });
      spelling =
          ap (λ (w : ℕ). a ∷ b ∷ c ∷ d ∷ w ∷ e ∷ f ∷ y ∷ g ∷ h ∷ z ∷ i ∷ j ∷ u ∷ o ∷ l ∷ v ∷ m ∷ n ∷ []) day.first_dash
          ∙ (ap (λ (w : ℕ). a ∷ b ∷ c ∷ d ∷ 45 ∷ e ∷ f ∷ w ∷ g ∷ h ∷ z ∷ i ∷ j ∷ u ∷ o ∷ l ∷ v ∷ m ∷ n ∷ []) day.second_dash
          ∙ (ap (λ (w : ℕ). a ∷ b ∷ c ∷ d ∷ 45 ∷ e ∷ f ∷ 45 ∷ g ∷ h ∷ z ∷ i ∷ j ∷ w ∷ o ∷ l ∷ v ∷ m ∷ n ∷ []) clock.colon
          ∙ ap (λ (w : ℕ). a ∷ b ∷ c ∷ d ∷ 45 ∷ e ∷ f ∷ 45 ∷ g ∷ h ∷ z ∷ i ∷ j ∷ 58 ∷ o ∷ l ∷ w ∷ m ∷ n ∷ []) clock.point));
      times = sym last.1
          ∙ (same_time (λ (y' m' d' : ℕ). moment (time_of k y' m' d' (two i j) (two o l) (two m n))) _ _ _ _ _ _ day.year day.month day.day
          ∙ same_time (λ (h' m' s' : ℕ). moment (time_of k (number (a ∷ b ∷ c ∷ d ∷ [])) (number (e ∷ f ∷ [])) (number (g ∷ h ∷ [])) h' m' s')) _ _ _ _ _ _ hour minute second);
    }

pub date_text_taken : (k : Calendar) (t : List ℕ) (p : Period) → date_period k t ≡ Some p → IsDateText k t p
date_text_taken k t p e = elim (either_some (length t == 4) (year_period k t) (if length t == 7 then month_period k t else (if length t == 10 then day_period k t else (if length t == 19 then second_period k t else None))) p e) [
  | inl h ↦ on_four_alone (λ (t : List ℕ). year_period k t ≡ Some p → IsDateText k t p) (year_taken k p) t (eqb-true (length t) 4 h.0) h.1
  | inr h ↦ elim (either_some (length t == 7) (month_period k t) (if length t == 10 then day_period k t else (if length t == 19 then second_period k t else None)) p h.1) [
    | inl i ↦ on_seven (λ (t : List ℕ). month_period k t ≡ Some p → IsDateText k t p) (month_taken k p) t (eqb-true (length t) 7 i.0) i.1
    | inr i ↦ elim (either_some (length t == 10) (day_period k t) (if length t == 19 then second_period k t else None) p i.1) [
      | inl j ↦ on_ten (λ (t : List ℕ). day_period k t ≡ Some p → IsDateText k t p) (day_taken k p) t (eqb-true (length t) 10 j.0) j.1
      | inr j ↦ let l = then_some (length t == 19) (second_period k t) p j.1 in on_nineteen (λ (t : List ℕ). second_period k t ≡ Some p → IsDateText k t p) (second_taken k p) t (eqb-true (length t) 19 l.0) l.1
    ]
  ]
]
