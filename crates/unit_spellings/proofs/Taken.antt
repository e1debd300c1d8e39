-- What the reader takes is spelled from parts, piece by piece.
use Rattle.std.proofs.Common.{◌≡◌, ◌==◌, ◌&&◌, ℕ, ◌+◌, ◌*◌, ◌<◌, ◌≤◌, true, List, [], ◌∷◌, ◌++◌, length, take, drop, codes, Option, Some, None, IfSome, refl, sym, ap, subst, subst₂, ◌∙◌, inl, inr, arith, nat_le, nat_lt}
use Rattle.std.specs.List.{list_all, prefix_len, take_while}
use Rattle.std.specs.Char.{is_ascii_digit}
use Rattle.std.proofs.lemmas.Bool.{and_parts, leb-true, ltb-true, eqb-true, eqb-false}
use Rattle.std.proofs.lemmas.List.Folds.{length-prefix_len}
use Rattle.xr_types.specs.declared.axis.Calendar.{Calendar}
use Rattle.xr_times.specs.Times.{IsDate, month_days}
use Rattle.xr_times.specs.Units.{is_blank, behind_blanks, behind_byte, number, part, is_date, date, is_whole, clock, second, seconds, time_of_day, behind_mark, marked_time, day_second}
use Rattle.unit_spellings.specs.Spellings as say
use Rattle.unit_spellings.specs.Spellings.{ClockParts, SecondParts, AreBlanks, AreZeros, AreDigits, IsSecond, IsMark, IsClock, zeros_spelled, second_spelled, clock_spelled, hour_of, minute_of, second_of, second_in}
use Rattle.unit_spellings.proofs.Fronts.{bound, if_some, unless_some, then_some, either_some, some_is, joined, run_passes, in_two}

-- a text is a front that has P, and the rest
pub record Fronts (P : List ℕ → Type 0) (text rest : List ℕ) : Type 0 where
  pub front : List ℕ
  pub parts : text ≡ front ++ rest
  pub has : P front

pub blanks_taken : (t r : List ℕ) → behind_blanks t ≡ Some r → Fronts AreBlanks t r
blanks_taken t r e =
    let h = unless_some (prefix_len is_blank t == 0) (drop (prefix_len is_blank t) t) r e in
    let n = length-prefix_len is_blank t in
    let some : prefix_len is_blank t ≡ 0 → ⊥ = eqb-false _ _ h.0 in
    record {
      front = take (prefix_len is_blank t) t;
      parts = joined (take (prefix_len is_blank t) t) (in_two is_blank t) h.1;
      has = record { some = omega arith; blanks = run_passes is_blank t };
    }

pub byte_taken : (c : ℕ) (t r : List ℕ) → behind_byte c t ≡ Some r → t ≡ c ∷ r
byte_taken c [] r e = absurd cc
byte_taken c (x ∷ t) r e =
    let h = if_some (x == c) t r e in
    let same : x ≡ c = eqb-true x c h.0 in
    ap (λ (y : ℕ). y ∷ t) same ∙ ap (λ (z : List ℕ). c ∷ z) h.1

-- digits that write a number
pub record IsNumber (least most n : ℕ) (t : List ℕ) : Type 0 where
  pub digits : AreDigits least most t
  pub value : n ≡ say.number t

pub number_taken : (least most : ℕ) (t : List ℕ) (x : ℕ × List ℕ) → number least most t ≡ Some x → Fronts (IsNumber least most x.0) t x.1
number_taken least most t x e =
    let run : ℕ = prefix_len is_ascii_digit t in
    let made : ℕ × List ℕ = (say.number (take_while is_ascii_digit t), drop (prefix_len is_ascii_digit t) t) in
    let h = if_some (nat_le least (prefix_len is_ascii_digit t) && nat_le (prefix_len is_ascii_digit t) most) made x e in
    let g = and_parts (nat_le least (prefix_len is_ascii_digit t)) (nat_le (prefix_len is_ascii_digit t) most) h.0 in
    let low : least ≤ prefix_len is_ascii_digit t = leb-true _ _ g.0 in
    let high : prefix_len is_ascii_digit t ≤ most = leb-true _ _ g.1 in
    let n = length-prefix_len is_ascii_digit t in
    record {
      front = take (prefix_len is_ascii_digit t) t;
      parts = in_two is_ascii_digit t ∙ ap (λ (y : ℕ × List ℕ). take (prefix_len is_ascii_digit t) t ++ y.1) h.1;
      has = record { digits = record { from = omega arith; to = omega arith; digits = run_passes is_ascii_digit t }; value = sym (ap (λ (y : ℕ × List ℕ). y.0) h.1) };
    }

-- a byte, and digits behind it
pub record PartTaken (c n : ℕ) (t rest : List ℕ) : Type 0 where
  pub front : List ℕ
  pub parts : t ≡ c ∷ (front ++ rest)
  pub has : IsNumber 1 2 n front

pub part_taken : (c : ℕ) (t : List ℕ) (x : ℕ × List ℕ) → part c t ≡ Some x → PartTaken c x.0 t x.1
unfolding part
part_taken c t x e = bound (behind_byte c t) _ x e (λ r h k.
    let d = number_taken 1 2 r x k in
    record { front = d.front; parts = byte_taken c t r h ∙ ap (λ (y : List ℕ). c ∷ y) d.parts; has = d.has })

-- ---- the time of day

zeros_taken : (t : List ℕ) → is_whole t ≡ true → (o : Option (List ℕ)) × (t ≡ zeros_spelled o) × IfSome o AreZeros
zeros_taken [] e = (None, refl, tt)
zeros_taken (c ∷ t) e =
    let g = and_parts ((c == 46) && nat_lt 0 (length t)) (list_all (λ z. z == 48) t) e in
    let h = and_parts (c == 46) (nat_lt 0 (length t)) g.0 in
    let point : c ≡ 46 = eqb-true c 46 h.0 in
    let some : 0 < length t = ltb-true _ _ h.1 in
    (Some t, ap (λ (y : ℕ). y ∷ t) point, record { some = some; zeros = g.1 })

pub record IsClockOf (h m s n : ℕ) : Type 0 where
  pub hour : h < 24
  pub minute : m < 60
  pub second : s < 60
  pub value : n ≡ 3600 * h + 60 * m + s

clock_taken : (h m s n : ℕ) → clock h m s ≡ Some n → IsClockOf h m s n
clock_taken h m s n e =
    let i = if_some (nat_lt h 24 && nat_lt m 60 && nat_lt s 60) (3600 * h + 60 * m + s) n e in
    let a = and_parts (nat_lt h 24 && nat_lt m 60) (nat_lt s 60) i.0 in
    let b = and_parts (nat_lt h 24) (nat_lt m 60) a.0 in
    record { hour = ltb-true _ _ b.0; minute = ltb-true _ _ b.1; second = ltb-true _ _ a.1; value = sym i.1 }

-- seconds or none, to the text's end
pub record SecondTaken (h m n : ℕ) (t : List ℕ) : Type 0 where
  pub parts : Option SecondParts
  pub spelling : t ≡ second_spelled parts
  pub lawful : IfSome parts IsSecond
  pub clock : IsClockOf h m (second_in parts) n

some_second_taken : (h m n : ℕ) (t : List ℕ) → second h m t ≡ Some n → SecondTaken h m n t
unfolding second
some_second_taken h m n t e = bound (part 58 t) _ n e (λ x a k.
    let p = part_taken 58 t x a in
    let i = then_some (is_whole x.1) (clock h m x.0) n k in
    let z = zeros_taken x.1 i.0 in
    record {
      parts = Some (record { second = p.front; zeros = z.0 });
      spelling = joined (codes ":") p.parts (ap (λ (y : List ℕ). p.front ++ y) z.1);
      lawful = record { second = p.has.digits; zeros = z.2 };
      clock = subst (λ (s : ℕ). IsClockOf h m s n) p.has.value (clock_taken h m x.0 n i.1);
    })

second_taken : (h m n : ℕ) (t : List ℕ) → seconds h m t ≡ Some n → SecondTaken h m n t
second_taken h m n [] e = record { parts = None; spelling = refl; lawful = tt; clock = clock_taken h m 0 n e }
second_taken h m n (c ∷ t) e = some_second_taken h m n (c ∷ t) e

-- an hour, a minute, and a second if there is one, to the text's end
pub record TimeTaken (n : ℕ) (t : List ℕ) : Type 0 where
  pub hour : List ℕ
  pub minute : List ℕ
  pub second : Option SecondParts
  pub spelling : t ≡ hour ++ (codes ":" ++ (minute ++ second_spelled second))
  pub hour_digits : AreDigits 1 2 hour
  pub minute_digits : AreDigits 1 2 minute
  pub lawful : IfSome second IsSecond
  pub clock : IsClockOf (say.number hour) (say.number minute) (second_in second) n

time_taken : (n : ℕ) (t : List ℕ) → time_of_day t ≡ Some n → TimeTaken n t
unfolding time_of_day
time_taken n t e =
    bound (number 1 2 t) _ n e (λ h eh k.
    bound (part 58 h.1) _ n k (λ m em l.
    let hour = number_taken 1 2 t h eh in
    let minute = part_taken 58 h.1 m em in
    let second = second_taken h.0 m.0 n m.1 l in
    record {
      hour = hour.front;
      minute = minute.front;
      second = second.parts;
      spelling = joined hour.front hour.parts (joined (codes ":") minute.parts (ap (λ (y : List ℕ). minute.front ++ y) second.spelling));
      hour_digits = hour.has.digits;
      minute_digits = minute.has.digits;
      lawful = second.lawful;
      clock = subst₂ (λ (h' m' : ℕ). IsClockOf h' m' (second_in second.parts) n) hour.has.value minute.has.value second.clock;
    }))

mark_taken : (t r : List ℕ) → behind_mark t ≡ Some r → Fronts IsMark t r
mark_taken [] r e = absurd cc
mark_taken (c ∷ t) r e = elim (either_some (c == 84) (Some t) (behind_blanks (c ∷ t)) r e) [
  | inl h ↦ record { front = codes "T"; parts = joined (codes "T") (ap (λ (x : ℕ). x ∷ t) (eqb-true c 84 h.0)) (some_is t r h.1); has = inr refl }
  | inr h ↦ let b = blanks_taken (c ∷ t) r h.1 in record { front = b.front; parts = b.parts; has = inl b.has }
]

-- a time of day, or none
pub record ClockTaken (n : ℕ) (t : List ℕ) : Type 0 where
  pub parts : Option ClockParts
  pub spelling : t ≡ clock_spelled parts
  pub lawful : IfSome parts IsClock
  pub clock : IsClockOf (hour_of parts) (minute_of parts) (second_of parts) n

some_clock_taken : (n : ℕ) (t : List ℕ) → marked_time t ≡ Some n → ClockTaken n t
unfolding marked_time
some_clock_taken n t e = bound (behind_mark t) _ n e (λ r h k.
    let mark = mark_taken t r h in
    let time = time_taken n r k in
    record {
      parts = Some (record { mark = mark.front; hour = time.hour; minute = time.minute; second = time.second });
      spelling = joined mark.front mark.parts time.spelling;
      lawful = record { mark = mark.has; hour = time.hour_digits; minute = time.minute_digits; second = time.lawful };
      clock = time.clock;
    })

pub clock_taken_or_none : (n : ℕ) (t : List ℕ) → day_second t ≡ Some n → ClockTaken n t
clock_taken_or_none n [] e =
    let zero : 0 ≡ n = some_is 0 n e in
    record { parts = None; spelling = refl; lawful = tt; clock = record { hour = omega arith; minute = omega arith; second = omega arith; value = omega arith } }
clock_taken_or_none n (c ∷ t) e = some_clock_taken n (c ∷ t) e

-- ---- the date

pub is_a_date : (c : Calendar) (y m d : ℕ) → is_date c y m d ≡ true → IsDate c y m d
is_a_date c y m d e =
    let a = and_parts (nat_le 1 y && nat_le y 9999 && nat_le 1 m && nat_le m 12 && nat_le 1 d) (nat_le d (month_days c y m)) e in
    let b = and_parts (nat_le 1 y && nat_le y 9999 && nat_le 1 m && nat_le m 12) (nat_le 1 d) a.0 in
    let f = and_parts (nat_le 1 y && nat_le y 9999 && nat_le 1 m) (nat_le m 12) b.0 in
    let g = and_parts (nat_le 1 y && nat_le y 9999) (nat_le 1 m) f.0 in
    let h = and_parts (nat_le 1 y) (nat_le y 9999) g.0 in
    record {
      year_from = leb-true _ _ h.0;
      year_to = leb-true _ _ h.1;
      month_from = leb-true _ _ g.1;
      month_to = leb-true _ _ f.1;
      day_from = leb-true _ _ b.1;
      day_to = leb-true _ _ a.1;
    }

-- a date, and the rest
pub record DateTaken (c : Calendar) (x : (ℕ × ℕ × ℕ) × List ℕ) (t : List ℕ) : Type 0 where
  pub year : List ℕ
  pub month : List ℕ
  pub day : List ℕ
  pub spelling : t ≡ year ++ (codes "-" ++ (month ++ (codes "-" ++ (day ++ x.1))))
  pub year_digits : AreDigits 4 4 year
  pub month_digits : AreDigits 1 2 month
  pub day_digits : AreDigits 1 2 day
  pub date : IsDate c (say.number year) (say.number month) (say.number day)
  pub is_year : x.0.0 ≡ say.number year
  pub is_month : x.0.1 ≡ say.number month
  pub is_day : x.0.2 ≡ say.number day

pub date_taken : (c : Calendar) (t : List ℕ) (x : (ℕ × ℕ × ℕ) × List ℕ) → date c t ≡ Some x → DateTaken c x t
unfolding date
date_taken c t x e =
    bound (number 4 4 t) _ x e (λ y ey k.
    bound (part 45 y.1) _ x k (λ m em l.
    bound (part 45 m.1) _ x l (λ d ed o.
    let year = number_taken 4 4 t y ey in
    let month = part_taken 45 y.1 m em in
    let day = part_taken 45 m.1 d ed in
    let made : (ℕ × ℕ × ℕ) × List ℕ = ((y.0, m.0, d.0), d.1) in
    let h = if_some (is_date c y.0 m.0 d.0) made x o in
    let there : IsDate c y.0 m.0 d.0 = is_a_date c y.0 m.0 d.0 h.0 in
    let behind : m.1 ≡ 45 ∷ (day.front ++ x.1) = day.parts ∙ ap (λ (w : (ℕ × ℕ × ℕ) × List ℕ). 45 ∷ (day.front ++ w.1)) h.1 in
    record {
      year = year.front;
      month = month.front;
      day = day.front;
      spelling = joined year.front year.parts (joined (codes "-") month.parts (ap (λ (w : List ℕ). month.front ++ w) behind));
      year_digits = year.has.digits;
      month_digits = month.has.digits;
      day_digits = day.has.digits;
      date = subst₂ (λ (m' d' : ℕ). IsDate c (say.number year.front) m' d') month.has.value day.has.value (subst (λ (y' : ℕ). IsDate c y' m.0 d.0) year.has.value there);
      is_year = sym (ap (λ (w : (ℕ × ℕ × ℕ) × List ℕ). w.0.0) h.1) ∙ year.has.value;
      is_month = sym (ap (λ (w : (ℕ × ℕ × ℕ) × List ℕ). w.0.1) h.1) ∙ month.has.value;
      is_day = sym (ap (λ (w : (ℕ × ℕ × ℕ) × List ℕ). w.0.2) h.1) ∙ day.has.value;
    })))
