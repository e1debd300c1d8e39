-- Which texts are dates of a script, and for which times they stand: a text is a date where parts can be chosen whose spelling
-- it is. Nothing here reads a text. As a grammar:
--
--     date  = year | year "-" month | year "-" month "-" day | year "-" month "-" day mark hour ":" minute ":" second
--     year  = four digits
--     month, day, hour, minute, second = two digits
--     mark  = "T" | one space or tab
--
-- ISO 8601, "Representation of dates and times"; pandas, "Partial string indexing", for the period that a date without its
-- last parts stands for. That all digits are there, in the years 0001 to 9999, and that nothing follows, no fraction of a
-- second and no time zone, is this project's own.
use Rattle.std.specs.Prelude.{◌≡◌, ◌⊎◌, ◌↔◌, ◌<◌, ℕ, true, List, ◌∷◌, ◌++◌, codes, Some, None}
use Rattle.xr_types.specs.declared.axis.Calendar.{Calendar}
use Rattle.xr_times.specs.declared.time.Period.{Period}
use Rattle.xr_times.specs.Times.{IsDate, month_days, time_of, period, moment, date_period}
use Rattle.xr_times.specs.Units.{is_blank}
use Rattle.unit_spellings.specs.Spellings.{AreDigits, number}

-- ---- the parts of a text, and their spelling

pub data DateParts : Type 0 where
  Year : (year : List ℕ) → DateParts
  Month : (year month : List ℕ) → DateParts
  Day : (year month day : List ℕ) → DateParts
  Second : (year month day : List ℕ) (mark : ℕ) (hour minute second : List ℕ) → DateParts

abbrev pub date_spelled : DateParts → List ℕ
date_spelled (Year y) = y
date_spelled (Month y m) = y ++ (codes "-" ++ m)
date_spelled (Day y m d) = y ++ (codes "-" ++ (m ++ (codes "-" ++ d)))
date_spelled (Second y m d mark h k s) = y ++ (codes "-" ++ (m ++ (codes "-" ++ (d ++ (mark ∷ (h ++ (codes ":" ++ (k ++ (codes ":" ++ s)))))))))

-- ---- which parts there are

-- digits of a date that the calendar has
pub record IsDayOf (c : Calendar) (y m d : List ℕ) : Type 0 where
  pub year : AreDigits 4 4 y
  pub month : AreDigits 2 2 m
  pub day : AreDigits 2 2 d
  pub date : IsDate c (number y) (number m) (number d)

-- digits of a time of day, behind a `T`, which is 84, a space or a tab
pub record IsTimeOfDay (x : ℕ) (h m s : List ℕ) : Type 0 where
  pub mark : (x ≡ 84) ⊎ (is_blank x ≡ true)
  pub hour : AreDigits 2 2 h
  pub minute : AreDigits 2 2 m
  pub second : AreDigits 2 2 s
  pub hours : number h < 24
  pub minutes : number m < 60
  pub seconds : number s < 60

-- a year has its first day, and a month too
abbrev pub AreDateParts : Calendar → DateParts → Type 0
AreDateParts c (Year y) = IsDayOf c y (codes "01") (codes "01")
AreDateParts c (Month y m) = IsDayOf c y m (codes "01")
AreDateParts c (Day y m d) = IsDayOf c y m d
AreDateParts c (Second y m d mark h k s) = IsDayOf c y m d × IsTimeOfDay mark h k s

-- ---- the times for which they stand

-- from the first second to the last
abbrev pub period_of : Calendar → DateParts → Period
period_of c (Year y) = period c (number y) 1 1 12 (month_days c (number y) 12)
period_of c (Month y m) = period c (number y) (number m) 1 (number m) (month_days c (number y) (number m))
period_of c (Day y m d) = period c (number y) (number m) (number d) (number m) (number d)
period_of c (Second y m d mark h k s) = moment (time_of c (number y) (number m) (number d) (number h) (number k) (number s))

-- a text is a date of the calendar, and stands for these times
pub record IsDateText (c : Calendar) (text : List ℕ) (p : Period) : Type 0 where
  pub parts : DateParts
  pub lawful : AreDateParts c parts
  pub spelling : text ≡ date_spelled parts
  pub times : p ≡ period_of c parts

-- ---- the laws

-- the reader takes exactly these texts, and gives these times
abbrev pub DateReaderIsExact : Type 0
DateReaderIsExact = (c : Calendar) (text : List ℕ) (times : Period) → (date_period c text ≡ Some times) ↔ IsDateText c text times

-- it refuses exactly the others
abbrev pub DateReaderRefusesOthers : Type 0
DateReaderRefusesOthers = (c : Calendar) (text : List ℕ) → (date_period c text ≡ None) ↔ ((times : Period) → IsDateText c text times → ⊥)

-- a text stands for one period
abbrev pub OnePeriod : Type 0
OnePeriod = (c : Calendar) (text : List ℕ) (times others : Period) → IsDateText c text times → IsDateText c text others → times ≡ others
