-- The reader takes what is spelled from parts, piece by piece.
use Rattle.std.proofs.Common.{◌≡◌, ◌==◌, ℕ, ◌+◌, ◌*◌, ◌<◌, ◌≤◌, true, false, List, [], ◌∷◌, ◌++◌, length, codes, Option, Some, None, IfSome, option_and_then, refl, sym, ap, subst, ◌∙◌, inl, inr, arith, nat_le, take_at, drop_at}
use Rattle.std.specs.List.{list_all}
use Rattle.std.specs.Char.{is_ascii_digit}
use Rattle.std.proofs.lemmas.Bool.{and_parts, or_cases, or_from, not_from_true, eqb-true, le-leb, lt-ltb, eq-eqb, ne_eqb, leb-true}
use Rattle.xr_types.specs.declared.axis.Calendar.{Calendar}
use Rattle.xr_times.specs.Times.{IsDate, month_days}
use Rattle.xr_times.specs.Units.{is_blank, is_dark, behind_blanks, number, part, is_date, date, is_whole, clock, second, seconds, time_of_day, behind_mark, marked_time, day_second}
use Rattle.unit_spellings.specs.Spellings as say
use Rattle.unit_spellings.specs.Spellings.{ClockParts, SecondParts, AreBlanks, AreZeros, AreDigits, IsSecond, IsMark, IsClock, UnitWord, zeros_spelled, second_spelled, clock_spelled, hour_of, minute_of, second_of, second_in}
use Rattle.unit_spellings.proofs.Fronts.{Stops, run_ends}

-- ---- where runs end

blank_no_digit : (c : ℕ) → is_blank c ≡ true → is_ascii_digit c ≡ false
blank_no_digit c h = elim (or_cases (c == 32) (c == 9) h) [
  | inl e ↦ subst (λ (x : ℕ). is_ascii_digit x ≡ false) (sym (eqb-true c 32 e)) refl
  | inr e ↦ subst (λ (x : ℕ). is_ascii_digit x ≡ false) (sym (eqb-true c 9 e)) refl
]

blank_no_mark : (c : ℕ) → is_blank c ≡ true → (c == 84) ≡ false
blank_no_mark c h = elim (or_cases (c == 32) (c == 9) h) [
  | inl e ↦ subst (λ (x : ℕ). (x == 84) ≡ false) (sym (eqb-true c 32 e)) refl
  | inr e ↦ subst (λ (x : ℕ). (x == 84) ≡ false) (sym (eqb-true c 9 e)) refl
]

digit_no_blank : (c : ℕ) → is_ascii_digit c ≡ true → is_blank c ≡ false
digit_no_blank c h =
    let low : 48 ≤ c = leb-true 48 c (and_parts (nat_le 48 c) (nat_le c 57) h).0 in
    or_from (c == 32) (c == 9) (ne_eqb c 32 (λ e. omega arith)) (ne_eqb c 9 (λ e. omega arith))

-- a run of blanks or digits begins with one
pub digits_end_blanks : (least most : ℕ) (d r : List ℕ) → 1 ≤ least → AreDigits least most d → Stops is_blank (d ++ r)
digits_end_blanks least most [] r some h = let from : least ≤ 0 = h.from in absurd (omega arith)
digits_end_blanks least most (x ∷ d) r some h = digit_no_blank x (and_parts (is_ascii_digit x) (list_all is_ascii_digit d) h.digits).0

blanks_end_digits : (b r : List ℕ) → AreBlanks b → Stops is_ascii_digit (b ++ r)
blanks_end_digits [] r h = let some : 1 ≤ 0 = h.some in absurd (omega arith)
blanks_end_digits (x ∷ b) r h = blank_no_digit x (and_parts (is_blank x) (list_all is_blank b) h.blanks).0

pub blanks_end_word : (b r : List ℕ) → AreBlanks b → Stops is_dark (b ++ r)
blanks_end_word [] r h = let some : 1 ≤ 0 = h.some in absurd (omega arith)
blanks_end_word (x ∷ b) r h = not_from_true (is_blank x) (and_parts (is_blank x) (list_all is_blank b) h.blanks).0

mark_ends_digits : (m r : List ℕ) → IsMark m → Stops is_ascii_digit (m ++ r)
mark_ends_digits m r (inl h) = blanks_end_digits m r h
mark_ends_digits m r (inr e) = subst (λ (x : List ℕ). Stops is_ascii_digit (x ++ r)) (sym e) refl

zeros_end_digits : (o : Option (List ℕ)) → Stops is_ascii_digit (zeros_spelled o)
zeros_end_digits None = tt
zeros_end_digits (Some zeros) = refl

second_ends_digits : (o : Option SecondParts) → Stops is_ascii_digit (second_spelled o)
second_ends_digits None = tt
second_ends_digits (Some s) = refl

pub clock_ends_digits : (o : Option ClockParts) → IfSome o IsClock → Stops is_ascii_digit (clock_spelled o)
clock_ends_digits None h = tt
clock_ends_digits (Some c) h = mark_ends_digits c.mark (c.hour ++ (codes ":" ++ (c.minute ++ second_spelled c.second))) h.mark

-- ---- blanks and numbers

pub blanks_given : (b r : List ℕ) → AreBlanks b → Stops is_blank r → behind_blanks (b ++ r) ≡ Some r
blanks_given b r h s =
    let some : 1 ≤ length b = h.some in
    rw (run_ends is_blank b r h.blanks s, ne_eqb (length b) 0 (λ e. omega arith), drop_at b r (length b) refl) refl

number_given : (least most : ℕ) (d r : List ℕ) → AreDigits least most d → Stops is_ascii_digit r → number least most (d ++ r) ≡ Some (say.number d, r)
number_given least most d r h s = rw (run_ends is_ascii_digit d r h.digits s, le-leb least (length d) h.from, le-leb (length d) most h.to, take_at d r (length d) refl, drop_at d r (length d) refl) refl

part_given : (c : ℕ) (d r : List ℕ) → AreDigits 1 2 d → Stops is_ascii_digit r → part c (c ∷ (d ++ r)) ≡ Some (say.number d, r)
unfolding part
part_given c d r h s = rw (eq-eqb c c refl) (number_given 1 2 d r h s)

-- ---- the time of day

zeros_given : (o : Option (List ℕ)) → IfSome o AreZeros → is_whole (zeros_spelled o) ≡ true
zeros_given None h = refl
zeros_given (Some zeros) h = rw (lt-ltb 0 (length zeros) h.some) h.zeros

pub clock_given : (h m s : ℕ) → h < 24 → m < 60 → s < 60 → clock h m s ≡ Some (3600 * h + 60 * m + s)
clock_given h m s a b c = rw (lt-ltb h 24 a, lt-ltb m 60 b, lt-ltb s 60 c) refl

second_given : (h m : ℕ) (o : Option SecondParts) → IfSome o IsSecond → h < 24 → m < 60 → second_in o < 60 → seconds h m (second_spelled o) ≡ Some (3600 * h + 60 * m + second_in o)
unfolding second
second_given h m None l a b c = clock_given h m 0 a b c
second_given h m (Some s) l a b c =
    rw (part_given 58 s.second (zeros_spelled s.zeros) l.second (zeros_end_digits s.zeros), zeros_given s.zeros l.zeros) (clock_given h m (say.number s.second) a b c)

pub time_given : (c : ClockParts) → IsClock c → say.number c.hour < 24 → say.number c.minute < 60 → second_in c.second < 60 → time_of_day (c.hour ++ (codes ":" ++ (c.minute ++ second_spelled c.second))) ≡ Some (3600 * say.number c.hour + 60 * say.number c.minute + second_in c.second)
unfolding time_of_day
time_given c l h m s =
    rw (number_given 1 2 c.hour (58 ∷ (c.minute ++ second_spelled c.second)) l.hour refl, part_given 58 c.minute (second_spelled c.second) l.minute (second_ends_digits c.second))
    (second_given (say.number c.hour) (say.number c.minute) c.second l.second h m s)

mark_given : (m r : List ℕ) → IsMark m → Stops is_blank r → behind_mark (m ++ r) ≡ Some r
mark_given [] r (inl h) s = let some : 1 ≤ 0 = h.some in absurd (omega arith)
mark_given (x ∷ m) r (inl h) s = rw (blank_no_mark x (and_parts (is_blank x) (list_all is_blank m) h.blanks).0) (blanks_given (x ∷ m) r h s)
mark_given m r (inr e) s = subst (λ (x : List ℕ). behind_mark (x ++ r) ≡ Some r) (sym e) refl

-- a mark isn't empty
marked : (m r : List ℕ) → IsMark m → day_second (m ++ r) ≡ marked_time (m ++ r)
marked [] r (inl h) = let some : 1 ≤ 0 = h.some in absurd (omega arith)
marked (x ∷ m) r (inl h) = refl
marked m r (inr e) = subst (λ (x : List ℕ). day_second (x ++ r) ≡ marked_time (x ++ r)) (sym e) refl

pub day_second_given : (o : Option ClockParts) → IfSome o IsClock → hour_of o < 24 → minute_of o < 60 → second_of o < 60 → day_second (clock_spelled o) ≡ Some (3600 * hour_of o + 60 * minute_of o + second_of o)
unfolding marked_time
day_second_given None l h m s = refl
day_second_given (Some c) l h m s =
    let r : List ℕ = c.hour ++ (codes ":" ++ (c.minute ++ second_spelled c.second)) in
    marked c.mark r l.mark ∙ (ap (option_and_then time_of_day) (mark_given c.mark r l.mark (digits_end_blanks 1 2 c.hour (codes ":" ++ (c.minute ++ second_spelled c.second)) (omega arith) l.hour)) ∙ time_given c l h m s)

-- ---- the date

date_is : (c : Calendar) (y m d : ℕ) → IsDate c y m d → is_date c y m d ≡ true
date_is c y m d h = rw (le-leb 1 y h.year_from, le-leb y 9999 h.year_to, le-leb 1 m h.month_from, le-leb m 12 h.month_to, le-leb 1 d h.day_from) (le-leb d (month_days c y m) h.day_to)

pub date_given : (c : Calendar) (y m d r : List ℕ) → AreDigits 4 4 y → AreDigits 1 2 m → AreDigits 1 2 d → IsDate c (say.number y) (say.number m) (say.number d) → Stops is_ascii_digit r
    → date c (y ++ (codes "-" ++ (m ++ (codes "-" ++ (d ++ r))))) ≡ Some ((say.number y, say.number m, say.number d), r)
unfolding date
date_given c y m d r hy hm hd there s =
    rw (number_given 4 4 y (45 ∷ (m ++ (45 ∷ (d ++ r)))) hy refl, part_given 45 m (45 ∷ (d ++ r)) hm refl, part_given 45 d r hd s, date_is c (say.number y) (say.number m) (say.number d) there) refl
