-- A whole text that is spelled from parts is read, and the reader gives what they say.
use Rattle.std.proofs.Common.{◌≡◌, ◌⊎◌, ◌↔◌, ◌≤ℤ◌, ℕ, ◌+◌, ◌*◌, Bool, true, List, ◌++◌, length, codes, Option, Some, None, option_and_then, refl, sym, ap, ◌∙◌, inl, inr, arith, take_at, drop_at}
use Rattle.std.specs.List.{list_all}
use Rattle.std.proofs.lemmas.Bool.{or_left, or_right}
use Rattle.xr_types.specs.declared.axis.TimeUnit.{TimeUnit}
use Rattle.xr_types.specs.declared.axis.Units.{Units}
use Rattle.xr_types.specs.declared.axis.Calendar.{Calendar}
use Rattle.xr_types.specs.declared.axis.Calendar.TheVariants.{Civil}
use Rattle.xr_times.specs.Times.{time_of, is_gregorian}
use Rattle.xr_times.specs.Units.{is_blank, is_dark, behind_blanks, behind_since, behind_word, reference, unit_named, unit, calendar_named, units, units_of}
use Rattle.unit_spellings.specs.Spellings.{Parts, AreBlanks, AreParts, UnitWord, CalendarName, IsUnits, Says, number, clock_spelled, hour_of, minute_of, second_of, spelled}
use Rattle.unit_spellings.proofs.Fronts.{Stops, run_ends}
use Rattle.unit_spellings.proofs.Given.{digits_end_blanks, blanks_end_word, blanks_given, day_second_given, date_given, clock_ends_digits}
use Rattle.unit_spellings.proofs.Texts.{time_at, to_gregorian, text_taken}

word_dark : (w : List ℕ) (u : TimeUnit) → UnitWord w u → list_all is_dark w ≡ true
word_dark w u UnitWord.day = refl
word_dark w u UnitWord.days = refl
word_dark w u UnitWord.hour = refl
word_dark w u UnitWord.hours = refl
word_dark w u UnitWord.minute = refl
word_dark w u UnitWord.minutes = refl
word_dark w u UnitWord.second = refl
word_dark w u UnitWord.seconds = refl

word_given : (w : List ℕ) (u : TimeUnit) → UnitWord w u → unit_named w ≡ Some u
word_given w u UnitWord.day = refl
word_given w u UnitWord.days = refl
word_given w u UnitWord.hour = refl
word_given w u UnitWord.hours = refl
word_given w u UnitWord.minute = refl
word_given w u UnitWord.minutes = refl
word_given w u UnitWord.second = refl
word_given w u UnitWord.seconds = refl

calendar_given : (name : Option (List ℕ)) (c : Calendar) (early : Bool) → CalendarName name c early → calendar_named name ≡ Some (c, early)
calendar_given name c early CalendarName.none = refl
calendar_given name c early CalendarName.standard = refl
calendar_given name c early CalendarName.gregorian = refl
calendar_given name c early CalendarName.proleptic_gregorian = refl
calendar_given name c early CalendarName.noleap = refl
calendar_given name c early CalendarName.of_365_days = refl
calendar_given name c early CalendarName.of_360_days = refl

unit_given : (w : List ℕ) (u : TimeUnit) (r : List ℕ) → UnitWord w u → Stops is_dark r → unit (w ++ r) ≡ Some (u, r)
unfolding unit
unit_given w u r h s =
    let dark : list_all is_dark w ≡ true = word_dark w u h in
    rw (run_ends is_dark w r dark s, take_at w r (length w) refl, drop_at w r (length w) refl, word_given w u h) refl

since_given : (r : List ℕ) → Stops is_dark r → behind_since (codes "since" ++ r) ≡ Some r
since_given r s = rw (run_ends is_dark (codes "since") r refl s) refl

since_and_blanks : (b c r : List ℕ) → AreBlanks b → AreBlanks c → Stops is_blank r → behind_word (b ++ (codes "since" ++ (c ++ r))) ≡ Some r
unfolding behind_word
since_and_blanks b c r hb hc s =
    rw (blanks_given b (codes "since" ++ (c ++ r)) hb refl) (ap (option_and_then behind_blanks) (since_given (c ++ r) (blanks_end_word c r hc)) ∙ blanks_given c r hc s)

reference_given : (p : Parts) (name : Option (List ℕ)) (u : Units) → AreParts p → Says p name u → reference u.calendar (p.year ++ (codes "-" ++ (p.month ++ (codes "-" ++ (p.day ++ clock_spelled p.clock))))) ≡ Some u.reference
unfolding reference
reference_given p name u l h =
    rw (
      date_given u.calendar p.year p.month p.day (clock_spelled p.clock) l.year l.month l.day h.date (clock_ends_digits p.clock l.clock),
      day_second_given p.clock l.clock h.hour h.minute h.second,
    )
    (ap Some (time_at u.calendar (number p.year) (number p.month) (number p.day) (hour_of p.clock) (minute_of p.clock) (second_of p.clock) (3600 * hour_of p.clock + 60 * minute_of p.clock + second_of p.clock) refl ∙ sym h.reference))

units_given : (u : Units) → (u.early ≡ true) ⊎ (time_of Civil 1582 10 15 0 0 0 ≤ℤ u.reference) → units u.unit u.reference u.calendar u.early ≡ Some u
units_given u (inl e) = rw (or_left u.early (is_gregorian u.reference) e) refl
units_given u (inr e) = rw (or_right u.early (is_gregorian u.reference) (to_gregorian u.reference e)) refl

pub parts_given : (p : Parts) (name : Option (List ℕ)) (u : Units) → AreParts p → Says p name u → units_of (spelled p) name ≡ Some u
unfolding units_of
parts_given p name u l h =
    let r : List ℕ = p.year ++ (codes "-" ++ (p.month ++ (codes "-" ++ (p.day ++ clock_spelled p.clock)))) in
    let word : unit (p.word ++ (p.before ++ (codes "since" ++ (p.behind ++ r)))) ≡ Some (u.unit, p.before ++ (codes "since" ++ (p.behind ++ r))) =
    unit_given p.word u.unit (p.before ++ (codes "since" ++ (p.behind ++ r))) h.unit (blanks_end_word p.before (codes "since" ++ (p.behind ++ r)) l.before) in
    let since : behind_word (p.before ++ (codes "since" ++ (p.behind ++ r))) ≡ Some r =
    since_and_blanks p.before p.behind r l.before l.behind (digits_end_blanks 4 4 p.year (codes "-" ++ (p.month ++ (codes "-" ++ (p.day ++ clock_spelled p.clock)))) (omega arith) l.year) in
    rw (word, since, calendar_given name u.calendar u.early h.calendar, reference_given p name u l h) (units_given u h.early)

text_given : (t : List ℕ) (name : Option (List ℕ)) (u : Units) → IsUnits t name u → units_of t name ≡ Some u
text_given t name u h = ap (λ (x : List ℕ). units_of x name) h.spelling ∙ parts_given h.parts name u h.lawful h.says

-- ---- the laws

pub exact : (t : List ℕ) (name : Option (List ℕ)) (u : Units) → (units_of t name ≡ Some u) ↔ IsUnits t name u
exact t name u = (text_taken t name u, text_given t name u)

pub others : (t : List ℕ) (name : Option (List ℕ)) → (units_of t name ≡ None) ↔ ((u : Units) → IsUnits t name u → ⊥)
others t name = (refused, unspelled (units_of t name) refl)
  where
    refused : units_of t name ≡ None → (u : Units) → IsUnits t name u → ⊥
    refused e u h = let some : units_of t name ≡ Some u = text_given t name u h in cc

    unspelled : (o : Option Units) → units_of t name ≡ o → ((u : Units) → IsUnits t name u → ⊥) → units_of t name ≡ None
    unspelled None e h = e
    unspelled (Some u) e h = absurd (h u (text_taken t name u e))

pub one_meaning : (t : List ℕ) (name : Option (List ℕ)) (u v : Units) → IsUnits t name u → IsUnits t name v → u ≡ v
one_meaning t name u v h k =
    let a : units_of t name ≡ Some u = text_given t name u h in
    let b : units_of t name ≡ Some v = text_given t name v k in
    cc
