-- Dates and times of three calendars, in the years 1 to 9999, without leap seconds: the civil one, which is the Gregorian
-- calendar extended to these years; `noleap`, which has no leap years; and `360_day`, whose months have 30 days.
-- ISO 8601, "Representation of dates and times"; Python, `datetime` ("proleptic Gregorian"); CF Conventions,
-- "Time Coordinate" and "Calendar"; xarray, "Datetime components".
use Rattle.std.specs.Prelude.{◌≤◌, ◌+◌, ◌-◌, ◌*◌, ◌/◌, ◌%◌, ◌==◌, ◌&&◌, ◌||◌, ◌++◌, ℕ, zero, suc, ℤ, pos, ◌+ℤ◌, ◌-ℤ◌, ◌≤ℤ◌, ◌<ℤ◌, ◌*ℤ◌, unsigned_abs, slice_index, nat_lt, nat_le, int_le, int_lt, Option, Some, None, Bool, true, false, not, List, [], ◌∷◌, length, if◌then◌else◌}
use Rattle.std.specs.List.{filter, range_with_len}
use Rattle.xr_types.specs.declared.axis.TimeUnit.{TimeUnit}
use Rattle.xr_types.specs.declared.axis.TimeUnit.TheVariants.{Days, Hours, Minutes, Seconds}
use Rattle.xr_types.specs.declared.axis.Calendar.{Calendar}
use Rattle.xr_types.specs.declared.axis.Calendar.TheVariants.{Civil, NoLeap, Days360}
use Rattle.xr_types.specs.declared.axis.Units.{Units}
use Rattle.xr_times.specs.declared.time.Period.{Period}
use Rattle.xr_times.specs.declared.time.Field.{Field}
use Rattle.xr_times.specs.declared.time.Field.TheVariants.{Year, Month, Day, Hour, Minute, Second, DayOfYear, DayOfWeek}

-- ---- the calendars

-- every fourth year, but of the centuries only every fourth
abbrev pub is_leap : ℕ → Bool
is_leap y = (y % 4 == 0) && (not (y % 100 == 0) || (y % 400 == 0))

abbrev pub year_days : Calendar → ℕ → ℕ
year_days Civil y = if is_leap y then 366 else 365
year_days NoLeap y = 365
year_days Days360 y = 360

-- thirty days have September, April, June and November
abbrev pub month_days : Calendar → ℕ → ℕ → ℕ
month_days Civil y m =
    if m == 2 then (if is_leap y then 29 else 28)
    else (if (m == 4) || (m == 6) || (m == 9) || (m == 11) then 30 else 31)
month_days NoLeap y m =
    if m == 2 then 28
    else (if (m == 4) || (m == 6) || (m == 9) || (m == 11) then 30 else 31)
month_days Days360 y m = 30

-- the days of the years 1 to n
unfoldable pub days_of_years : Calendar → ℕ → ℕ
days_of_years c zero = 0
days_of_years c (suc n) = days_of_years c n + year_days c (suc n)

-- the days of the months 1 to n of a year
unfoldable pub days_of_months : Calendar → ℕ → ℕ → ℕ
days_of_months c y zero = 0
days_of_months c y (suc n) = days_of_months c y n + month_days c y (suc n)

-- the calendar has the date
pub record IsDate (c : Calendar) (y m d : ℕ) : Type 0 where
  pub year_from : 1 ≤ y
  pub year_to : y ≤ 9999
  pub month_from : 1 ≤ m
  pub month_to : m ≤ 12
  pub day_from : 1 ≤ d
  pub day_to : d ≤ month_days c y m

-- the days from 0001-01-01 to a date
abbrev pub day_number : Calendar → ℕ → ℕ → ℕ → ℕ
day_number c y m d = days_of_years c (y - 1) + days_of_months c y (m - 1) + (d - 1)

-- times of two calendars are labels of two kinds
abbrev pub same_calendar : Calendar → Calendar → Bool
same_calendar Civil Civil = true
same_calendar NoLeap NoLeap = true
same_calendar Days360 Days360 = true
same_calendar c d = false

-- ---- times, in seconds from 1970-01-01T00:00:00 of their calendar

-- the days from 0001-01-01 to 1970-01-01
abbrev pub epoch_days : Calendar → ℕ
epoch_days Civil = 719162
epoch_days NoLeap = 718685
epoch_days Days360 = 708840

-- the days of the years 1 to 9999
abbrev pub all_days : Calendar → ℕ
all_days Civil = 3652059
all_days NoLeap = 3649635
all_days Days360 = 3599640

-- the seconds from 0001-01-01T00:00:00 to 1970-01-01T00:00:00
abbrev pub epoch : Calendar → ℕ
epoch c = 86400 * epoch_days c

-- the time of a date, an hour, a minute and a second
abbrev pub time_of : Calendar → ℕ → ℕ → ℕ → ℕ → ℕ → ℕ → ℤ
time_of c y m d hour minute second = pos (86400 * day_number c y m d + 3600 * hour + 60 * minute + second) -ℤ pos (epoch c)

-- a time in the years 1 to 9999
pub record IsTime (c : Calendar) (t : ℤ) : Type 0 where
  pub from : pos 0 ≤ℤ (t +ℤ pos (epoch c))
  pub to : (t +ℤ pos (epoch c)) <ℤ pos (86400 * all_days c)

-- the seconds from 0001-01-01T00:00:00
abbrev pub seconds_since : Calendar → ℤ → ℕ
seconds_since c t = unsigned_abs (t +ℤ pos (epoch c))

-- the days from 0001-01-01
abbrev pub day_since : Calendar → ℤ → ℕ
day_since c t = seconds_since c t / 86400

abbrev pub second_of_day : Calendar → ℤ → ℕ
second_of_day c t = seconds_since c t % 86400

-- how many of the years 1 to 9999 have begun on a day: its year
unfoldable pub year_at : Calendar → ℕ → ℕ
year_at c n = length (filter (λ y. nat_le (days_of_years c (y - 1)) n) (range_with_len 1 9999))

-- the days of its year before it
abbrev pub day_in_year : Calendar → ℕ → ℕ
day_in_year c n = n - days_of_years c (year_at c n - 1)

-- how many of its year's months have begun: its month
abbrev pub month_at : Calendar → ℕ → ℕ
month_at c n = length (filter (λ m. nat_le (days_of_months c (year_at c n) (m - 1)) (day_in_year c n)) (range_with_len 1 12))

abbrev pub day_at : Calendar → ℕ → ℕ
day_at c n = day_in_year c n - days_of_months c (year_at c n) (month_at c n - 1) + 1

-- a week begins with Monday, day 0, and 0001-01-01 of the civil calendar was one; the others have no weeks
abbrev pub field_of : Calendar → ℤ → Field → ℕ
field_of c t Year = year_at c (day_since c t)
field_of c t Month = month_at c (day_since c t)
field_of c t Day = day_at c (day_since c t)
field_of c t Hour = second_of_day c t / 3600
field_of c t Minute = second_of_day c t % 3600 / 60
field_of c t Second = second_of_day c t % 60
field_of c t DayOfYear = day_in_year c (day_since c t) + 1
field_of c t DayOfWeek = day_since c t % 7

-- ---- the text of a time, YYYY-MM-DDThh:mm:ss

abbrev pub digit : ℕ → ℕ
digit n = 48 + n % 10

abbrev pub two_digits : ℕ → List ℕ
two_digits n = digit (n / 10) ∷ digit n ∷ []

abbrev pub four_digits : ℕ → List ℕ
four_digits n = digit (n / 1000) ∷ digit (n / 100) ∷ digit (n / 10) ∷ digit n ∷ []

-- 45 is '-', 84 'T' and 58 ':'
abbrev pub time_text : Calendar → ℤ → List ℕ
time_text c t =
    four_digits (field_of c t Year) ++ 45 ∷ two_digits (field_of c t Month) ++ 45 ∷ two_digits (field_of c t Day)
    ++ 84 ∷ two_digits (field_of c t Hour) ++ 58 ∷ two_digits (field_of c t Minute) ++ 58 ∷ two_digits (field_of c t Second)

-- ---- times of a file, as counts of a unit from a reference

abbrev pub unit_seconds : TimeUnit → ℕ
unit_seconds Days = 86400
unit_seconds Hours = 3600
unit_seconds Minutes = 60
unit_seconds Seconds = 1

abbrev pub is_time : Calendar → ℤ → Bool
is_time c t = int_le (pos 0) (t +ℤ pos (epoch c)) && int_lt (t +ℤ pos (epoch c)) (pos (86400 * all_days c))

-- not before 1582-10-15, with which the mixed calendar `standard` becomes the Gregorian one
abbrev pub is_gregorian : ℤ → Bool
is_gregorian t = int_le (pos 49916304000) (t +ℤ pos (epoch Civil))

abbrev pub counted : Units → ℤ → ℤ
counted units count = units.reference +ℤ count *ℤ pos (unit_seconds units.unit)

-- the reference plus the count times the unit, or none outside the years 1 to 9999 and, where early times
-- aren't decoded, before 1582-10-15
abbrev pub decoded : Units → ℤ → Option ℤ
decoded units count =
    if is_time units.calendar (counted units count) && (units.early || is_gregorian (counted units count)) then Some (counted units count) else None

-- ---- date texts of a script: YYYY, YYYY-MM, YYYY-MM-DD, or that with T or a blank and hh:mm:ss

abbrev pub is_digit : ℕ → Bool
is_digit c = nat_le 48 c && nat_le c 57

-- two digits from a place on, and their number
abbrev pub has_two : List ℕ → ℕ → Bool
has_two t i = is_digit (slice_index t i) && is_digit (slice_index t (i + 1))

abbrev pub two_at : List ℕ → ℕ → ℕ
two_at t i = 10 * (slice_index t i - 48) + (slice_index t (i + 1) - 48)

abbrev pub year_in : List ℕ → ℕ
year_in t = 100 * two_at t 0 + two_at t 2

abbrev pub has_year : List ℕ → Bool
has_year t = has_two t 0 && has_two t 2 && nat_le 1 (year_in t)

-- 45 is '-'
abbrev pub has_month : List ℕ → Bool
has_month t = (slice_index t 4 == 45) && has_two t 5 && nat_le 1 (two_at t 5) && nat_le (two_at t 5) 12

abbrev pub has_day : Calendar → List ℕ → Bool
has_day c t = (slice_index t 7 == 45) && has_two t 8 && nat_le 1 (two_at t 8) && nat_le (two_at t 8) (month_days c (year_in t) (two_at t 5))

-- 84 is 'T', 32 a space, 9 a tab and 58 ':'
unfoldable pub has_clock : List ℕ → Bool
has_clock t =
    ((slice_index t 10 == 84) || (slice_index t 10 == 32) || (slice_index t 10 == 9))
    && has_two t 11 && (slice_index t 13 == 58) && has_two t 14 && (slice_index t 16 == 58) && has_two t 17
    && nat_lt (two_at t 11) 24 && nat_lt (two_at t 14) 60 && nat_lt (two_at t 17) 60

-- from the first second of a date to the last of another
abbrev pub period : Calendar → ℕ → ℕ → ℕ → ℕ → ℕ → Period
period c y m d last_month last_day = record { first = time_of c y m d 0 0 0; last = time_of c y last_month last_day 23 59 59 }

abbrev pub moment : ℤ → Period
moment t = record { first = t; last = t }

abbrev pub year_period : Calendar → List ℕ → Option Period
year_period c t = if has_year t then Some (period c (year_in t) 1 1 12 (month_days c (year_in t) 12)) else None

abbrev pub month_period : Calendar → List ℕ → Option Period
month_period c t =
    if has_year t
    then (if has_month t then Some (period c (year_in t) (two_at t 5) 1 (two_at t 5) (month_days c (year_in t) (two_at t 5))) else None)
    else None

abbrev pub day_period : Calendar → List ℕ → Option Period
day_period c t =
    if has_year t
    then (if has_month t
    then (if has_day c t then Some (period c (year_in t) (two_at t 5) (two_at t 8) (two_at t 5) (two_at t 8)) else None)
    else None)
    else None

-- the one second of a full date and time
abbrev pub clock_period : Calendar → List ℕ → Option Period
clock_period c t = if has_clock t then Some (moment (time_of c (year_in t) (two_at t 5) (two_at t 8) (two_at t 11) (two_at t 14) (two_at t 17))) else None

abbrev pub second_period : Calendar → List ℕ → Option Period
second_period c t =
    if has_year t
    then (if has_month t
    then (if has_day c t then clock_period c t else None)
    else None)
    else None

-- the period of a date text, from its first to its last second, or none
abbrev pub date_period : Calendar → List ℕ → Option Period
date_period c t =
    if length t == 4 then year_period c t
    else (if length t == 7 then month_period c t
    else (if length t == 10 then day_period c t
    else (if length t == 19 then second_period c t else None)))
