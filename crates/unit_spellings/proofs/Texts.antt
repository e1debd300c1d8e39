-- A whole text that the reader takes is spelled from parts, and they say what the reader gives.
use Rattle.std.proofs.Common.{◌≡◌, ◌||◌, ◌⊎◌, ℕ, ◌+◌, ◌*◌, ◌<◌, Bool, true, false, if◌then◌else◌, ℤ, pos, negsuc, ◌+ℤ◌, ◌≤ℤ◌, int_le, ◌-ℤ◌, List, ◌++◌, drop, codes, Option, Some, None, IfSome, refl, sym, ap, ap₂, subst, subst₂, ◌∙◌, inl, inr, arith}
use Rattle.std.specs.List.{prefix_len, take_while}
use Rattle.std.specs.Str.{bytes_eq}
use Rattle.std.proofs.lemmas.Bool.{or_cases}
use Rattle.std.proofs.lemmas.Int.{ints}
use Rattle.std.proofs.lemmas.Slice.Eq.{bytes_eq-Decides}
use Rattle.xr_types.specs.declared.axis.TimeUnit.{TimeUnit}
use Rattle.xr_types.specs.declared.axis.TimeUnit.TheVariants.{Days, Hours, Minutes, Seconds}
use Rattle.xr_types.specs.declared.axis.Units.{Units}
use Rattle.xr_types.specs.declared.axis.Calendar.{Calendar}
use Rattle.xr_types.specs.declared.axis.Calendar.TheVariants.{Civil, NoLeap, Days360}
use Rattle.xr_times.specs.Times.{IsDate, time_of, day_number, epoch, is_gregorian, days_of_years, days_of_months}
use Rattle.xr_times.specs.Units.{is_dark, behind_blanks, behind_since, behind_word, date, day_second, reference, unit_named, unit, calendar_named, units, units_of}
use Rattle.unit_spellings.specs.Spellings.{ClockParts, Parts, AreBlanks, AreDigits, IsClock, UnitWord, CalendarName, IsUnits, Says, number, clock_spelled, hour_of, minute_of, second_of, spelled}
use Rattle.unit_spellings.proofs.Fronts.{bound, if_some, either_some, some_is, joined, in_two}
use Rattle.unit_spellings.proofs.Taken.{blanks_taken, date_taken, clock_taken_or_none}

-- ---- words

-- one of two names, or the rest of a table
two_names : {A : Type 0} (w a b : List ℕ) (v u : A) (rest : Option A) → (if bytes_eq w a || bytes_eq w b then Some v else rest) ≡ Some u → ((w ≡ a) × (v ≡ u)) ⊎ (((w ≡ b) × (v ≡ u)) ⊎ (rest ≡ Some u))
two_names w a b v u rest e = elim (either_some (bytes_eq w a || bytes_eq w b) (Some v) rest u e) [
  | inl h ↦ elim (or_cases (bytes_eq w a) (bytes_eq w b) h.0) [
    | inl first ↦ inl ((bytes_eq-Decides w a).0 first, some_is v u h.1)
    | inr second ↦ inr (inl ((bytes_eq-Decides w b).0 second, some_is v u h.1))
  ]
  | inr h ↦ inr (inr h.1)
]

one_name : {A : Type 0} (w a : List ℕ) (v u : A) (rest : Option A) → (if bytes_eq w a then Some v else rest) ≡ Some u → ((w ≡ a) × (v ≡ u)) ⊎ (rest ≡ Some u)
one_name w a v u rest e = elim (either_some (bytes_eq w a) (Some v) rest u e) [
  | inl h ↦ inl ((bytes_eq-Decides w a).0 h.0, some_is v u h.1)
  | inr h ↦ inr h.1
]

word_is : (w a : List ℕ) (v u : TimeUnit) → UnitWord a v → (w ≡ a) × (v ≡ u) → UnitWord w u
word_is w a v u h e = subst₂ (λ (x : List ℕ) (y : TimeUnit). UnitWord x y) (sym e.0) e.1 h

second_word : (w : List ℕ) (u : TimeUnit) → (if bytes_eq w (codes "second") || bytes_eq w (codes "seconds") then Some Seconds else None) ≡ Some u → UnitWord w u
second_word w u e = elim (two_names w (codes "second") (codes "seconds") Seconds u None e) [
  | inl h ↦ word_is w _ _ u UnitWord.second h
  | inr (inl h) ↦ word_is w _ _ u UnitWord.seconds h
  | inr (inr h) ↦ absurd cc
]

abbrev minute_table : List ℕ → Option TimeUnit
minute_table w = if bytes_eq w (codes "minute") || bytes_eq w (codes "minutes") then Some Minutes else (if bytes_eq w (codes "second") || bytes_eq w (codes "seconds") then Some Seconds else None)

minute_word : (w : List ℕ) (u : TimeUnit) → minute_table w ≡ Some u → UnitWord w u
minute_word w u e = elim (two_names w (codes "minute") (codes "minutes") Minutes u _ e) [
  | inl h ↦ word_is w _ _ u UnitWord.minute h
  | inr (inl h) ↦ word_is w _ _ u UnitWord.minutes h
  | inr (inr h) ↦ second_word w u h
]

abbrev hour_table : List ℕ → Option TimeUnit
hour_table w = if bytes_eq w (codes "hour") || bytes_eq w (codes "hours") then Some Hours else minute_table w

hour_word : (w : List ℕ) (u : TimeUnit) → hour_table w ≡ Some u → UnitWord w u
hour_word w u e = elim (two_names w (codes "hour") (codes "hours") Hours u _ e) [
  | inl h ↦ word_is w _ _ u UnitWord.hour h
  | inr (inl h) ↦ word_is w _ _ u UnitWord.hours h
  | inr (inr h) ↦ minute_word w u h
]

word_taken : (w : List ℕ) (u : TimeUnit) → unit_named w ≡ Some u → UnitWord w u
word_taken w u e = elim (two_names w (codes "day") (codes "days") Days u (hour_table w) e) [
  | inl h ↦ word_is w _ _ u UnitWord.day h
  | inr (inl h) ↦ word_is w _ _ u UnitWord.days h
  | inr (inr h) ↦ hour_word w u h
]

-- ---- calendars

-- the name of a calendar, as a table has it
named_is : (w a : List ℕ) (v x : Calendar × Bool) → CalendarName (Some a) v.0 v.1 → (w ≡ a) × (v ≡ x) → CalendarName (Some w) x.0 x.1
named_is w a v x h e = subst₂ (λ (y : List ℕ) (z : Calendar × Bool). CalendarName (Some y) z.0 z.1) (sym e.0) e.1 h

abbrev row : Calendar → Bool → Calendar × Bool
row c early = (c, early)

days_360 : (w : List ℕ) (x : Calendar × Bool) → (if bytes_eq w (codes "360_day") then Some (row Days360 true) else None) ≡ Some x → CalendarName (Some w) x.0 x.1
days_360 w x e = elim (one_name w (codes "360_day") (row Days360 true) x None e) [
  | inl h ↦ named_is w _ _ x CalendarName.of_360_days h
  | inr h ↦ absurd cc
]

abbrev noleap_table : List ℕ → Option (Calendar × Bool)
noleap_table w = if bytes_eq w (codes "noleap") || bytes_eq w (codes "365_day") then Some (row NoLeap true) else (if bytes_eq w (codes "360_day") then Some (row Days360 true) else None)

no_leap : (w : List ℕ) (x : Calendar × Bool) → noleap_table w ≡ Some x → CalendarName (Some w) x.0 x.1
no_leap w x e = elim (two_names w (codes "noleap") (codes "365_day") (row NoLeap true) x _ e) [
  | inl h ↦ named_is w _ _ x CalendarName.noleap h
  | inr (inl h) ↦ named_is w _ _ x CalendarName.of_365_days h
  | inr (inr h) ↦ days_360 w x h
]

abbrev proleptic_table : List ℕ → Option (Calendar × Bool)
proleptic_table w = if bytes_eq w (codes "proleptic_gregorian") then Some (row Civil true) else noleap_table w

proleptic : (w : List ℕ) (x : Calendar × Bool) → proleptic_table w ≡ Some x → CalendarName (Some w) x.0 x.1
proleptic w x e = elim (one_name w (codes "proleptic_gregorian") (row Civil true) x _ e) [
  | inl h ↦ named_is w _ _ x CalendarName.proleptic_gregorian h
  | inr h ↦ no_leap w x h
]

calendar_taken : (name : Option (List ℕ)) (x : Calendar × Bool) → calendar_named name ≡ Some x → CalendarName name x.0 x.1
calendar_taken None x e = subst (λ (z : Calendar × Bool). CalendarName None z.0 z.1) (some_is (row Civil false) x e) CalendarName.none
calendar_taken (Some w) x e = elim (two_names w (codes "standard") (codes "gregorian") (row Civil false) x (proleptic_table w) e) [
  | inl h ↦ named_is w _ _ x CalendarName.standard h
  | inr (inl h) ↦ named_is w _ _ x CalendarName.gregorian h
  | inr (inr h) ↦ proleptic w x h
]

-- ---- the unit, and `since`

pub record UnitTaken (x : TimeUnit × List ℕ) (t : List ℕ) : Type 0 where
  pub word : List ℕ
  pub spelling : t ≡ word ++ x.1
  pub is : UnitWord word x.0

unit_taken : (t : List ℕ) (x : TimeUnit × List ℕ) → unit t ≡ Some x → UnitTaken x t
unfolding unit
unit_taken t x e = bound (unit_named (take_while is_dark t)) _ x e (λ u h k.
    let same : pair u (drop (prefix_len is_dark t) t) ≡ x = some_is (pair u (drop (prefix_len is_dark t) t)) x k in
    record {
      word = take_while is_dark t;
      spelling = in_two is_dark t ∙ ap (λ (y : TimeUnit × List ℕ). take_while is_dark t ++ y.1) same;
      is = subst (λ (y : TimeUnit × List ℕ). UnitWord (take_while is_dark t) y.0) same (word_taken (take_while is_dark t) u h);
    })
  where
    pair : TimeUnit → List ℕ → TimeUnit × List ℕ
    pair u l = (u, l)

since_taken : (t r : List ℕ) → behind_since t ≡ Some r → t ≡ codes "since" ++ r
since_taken t r e =
    let h = if_some (bytes_eq (take_while is_dark t) (codes "since")) (drop (prefix_len is_dark t) t) r e in
    let word : take_while is_dark t ≡ codes "since" = (bytes_eq-Decides (take_while is_dark t) (codes "since")).0 h.0 in
    joined (codes "since") (in_two is_dark t ∙ ap (λ (x : List ℕ). x ++ drop (prefix_len is_dark t) t) word) h.1

-- the blanks round the word, and what is behind them
pub record SinceTaken (t r : List ℕ) : Type 0 where
  pub before : List ℕ
  pub behind : List ℕ
  pub spelling : t ≡ before ++ (codes "since" ++ (behind ++ r))
  pub before_blanks : AreBlanks before
  pub behind_blanks : AreBlanks behind

since_with_blanks : (t r : List ℕ) → behind_word t ≡ Some r → SinceTaken t r
unfolding behind_word
since_with_blanks t r e =
    bound (behind_blanks t) _ r e (λ u eu k.
    bound (behind_since u) _ r k (λ v ev l.
    let before = blanks_taken t u eu in
    let behind = blanks_taken v r l in
    record {
      before = before.front;
      behind = behind.front;
      spelling = joined before.front before.parts (joined (codes "since") (since_taken u v ev) behind.parts);
      before_blanks = before.has;
      behind_blanks = behind.has;
    }))

-- ---- the reference

pub time_at : (c : Calendar) (y m d h k s n : ℕ) → n ≡ 3600 * h + 60 * k + s → time_of c y m d 0 0 n ≡ time_of c y m d h k s
time_at c y m d h k s n e = ap (λ (x : ℕ). pos x -ℤ pos (epoch c)) (with_clock (day_number c y m d))
  where
    with_clock : (D : ℕ) → 86400 * D + 3600 * 0 + 60 * 0 + n ≡ 86400 * D + 3600 * h + 60 * k + s
    with_clock D = omega arith

-- a date, and a time of day if there is one, to the text's end
pub record ReferenceTaken (c : Calendar) (r : ℤ) (t : List ℕ) : Type 0 where
  pub year : List ℕ
  pub month : List ℕ
  pub day : List ℕ
  pub clock : Option ClockParts
  pub spelling : t ≡ year ++ (codes "-" ++ (month ++ (codes "-" ++ (day ++ clock_spelled clock))))
  pub year_digits : AreDigits 4 4 year
  pub month_digits : AreDigits 1 2 month
  pub day_digits : AreDigits 1 2 day
  pub lawful : IfSome clock IsClock
  pub date : IsDate c (number year) (number month) (number day)
  pub hour : hour_of clock < 24
  pub minute : minute_of clock < 60
  pub second : second_of clock < 60
  pub time : r ≡ time_of c (number year) (number month) (number day) (hour_of clock) (minute_of clock) (second_of clock)

reference_taken : (c : Calendar) (r : ℤ) (t : List ℕ) → reference c t ≡ Some r → ReferenceTaken c r t
unfolding reference
reference_taken c r t e =
    bound (date c t) _ r e (λ x ex l.
    bound (day_second x.1) _ r l (λ n en same.
    let d = date_taken c t x ex in
    let k = clock_taken_or_none n x.1 en in
    let dated : time_of c x.0.0 x.0.1 x.0.2 0 0 n ≡ time_of c (number d.year) (number d.month) (number d.day) 0 0 n =
    ap (λ (y : ℕ). time_of c y x.0.1 x.0.2 0 0 n) d.is_year ∙ ap₂ (λ (m' d' : ℕ). time_of c (number d.year) m' d' 0 0 n) d.is_month d.is_day in
    record {
      year = d.year;
      month = d.month;
      day = d.day;
      clock = k.parts;
      spelling = d.spelling ∙ ap (λ (y : List ℕ). d.year ++ (codes "-" ++ (d.month ++ (codes "-" ++ (d.day ++ y))))) k.spelling;
      year_digits = d.year_digits;
      month_digits = d.month_digits;
      day_digits = d.day_digits;
      lawful = k.lawful;
      date = d.date;
      hour = k.clock.hour;
      minute = k.clock.minute;
      second = k.clock.second;
      time = sym (some_is _ r same) ∙ (dated ∙ time_at c (number d.year) (number d.month) (number d.day) (hour_of k.parts) (minute_of k.parts) (second_of k.parts) n k.clock.value);
    }))

-- ---- the first Gregorian day

first_gregorian : time_of Civil 1582 10 15 0 0 0 ≡ negsuc 12219292799
unfolding days_of_years days_of_months
first_gregorian = refl

at_most : (x y : ℤ) → int_le x y ≡ true → x ≤ℤ y
at_most x y h = grind (arith, ints)

le_test : (x y : ℤ) → x ≤ℤ y → int_le x y ≡ true
le_test x y h = grind (arith, ints)

pub from_gregorian : (t : ℤ) → is_gregorian t ≡ true → time_of Civil 1582 10 15 0 0 0 ≤ℤ t
from_gregorian t h = let behind : pos 49916304000 ≤ℤ (t +ℤ pos (epoch Civil)) = at_most (pos 49916304000) (t +ℤ pos (epoch Civil)) h in rw first_gregorian (omega (arith, ints, behind))

pub to_gregorian : (t : ℤ) → time_of Civil 1582 10 15 0 0 0 ≤ℤ t → is_gregorian t ≡ true
to_gregorian t h = let behind : negsuc 12219292799 ≤ℤ t = rw first_gregorian at h in le_test (pos 49916304000) (t +ℤ pos (epoch Civil)) (omega (arith, ints, behind))

early_or_gregorian : (early : Bool) (t : ℤ) → (early ≡ true) ⊎ (is_gregorian t ≡ true) → (early ≡ true) ⊎ (time_of Civil 1582 10 15 0 0 0 ≤ℤ t)
early_or_gregorian early t (inl e) = inl e
early_or_gregorian early t (inr e) = inr (from_gregorian t e)

-- ---- the whole text

-- the pieces of a text together
together : (t : List ℕ) (name : Option (List ℕ)) (u : Units) (w : TimeUnit × List ℕ) (v : List ℕ) (c : Calendar × Bool) (n : ℤ)
    → UnitTaken w t → SinceTaken w.1 v → CalendarName name c.0 c.1 → ReferenceTaken c.0 n v → units w.0 n c.0 c.1 ≡ Some u → IsUnits t name u
together t name u w v c n unit since calendar r e =
    let made : Units = record { unit = w.0; reference = n; calendar = c.0; early = c.1 } in
    let h = if_some (c.1 || is_gregorian n) made u e in
    let parts : Parts = record { word = unit.word; before = since.before; behind = since.behind; year = r.year; month = r.month; day = r.day; clock = r.clock } in
    let spelling : t ≡ spelled parts = joined unit.word unit.spelling (since.spelling ∙ ap (λ (x : List ℕ). since.before ++ (codes "since" ++ (since.behind ++ x))) r.spelling) in
    let says : Says parts name made =
    record {
      unit = unit.is;
      calendar = calendar;
      date = r.date;
      hour = r.hour;
      minute = r.minute;
      second = r.second;
      reference = r.time;
      early = early_or_gregorian c.1 n (or_cases c.1 (is_gregorian n) h.0);
    } in
    subst (λ (x : Units). IsUnits t name x) h.1 (record {
      parts = parts;
      lawful = record { before = since.before_blanks; behind = since.behind_blanks; year = r.year_digits; month = r.month_digits; day = r.day_digits; clock = r.lawful };
      spelling = spelling;
      says = says;
    })

pub text_taken : (t : List ℕ) (name : Option (List ℕ)) (u : Units) → units_of t name ≡ Some u → IsUnits t name u
unfolding units_of
text_taken t name u e =
    bound (unit t) _ u e (λ w ew k.
    bound (behind_word w.1) _ u k (λ v ev l.
    bound (calendar_named name) _ u l (λ c ec m.
    bound (reference c.0 v) _ u m (λ n en o.
    together t name u w v c n (unit_taken t w ew) (since_with_blanks w.1 v ev) (calendar_taken name c ec) (reference_taken c.0 n v en) o))))
