-- What the code computes of dates: how many there are before one.
use Rattle.std.specs.Prelude.{◌≡◌, ◌≤◌, ◌+◌, ◌-◌, ◌*◌, ℕ, zero, suc}
use Rattle.xr_types.specs.declared.axis.Calendar.{Calendar}
use Rattle.xr_types.specs.declared.axis.Calendar.TheVariants.{Civil, NoLeap, Days360}
use Rattle.cf_calendar.specs.declared.date.CalDate.{CalDate}
use Rattle.cf_calendar.specs.Dates.{month_days}

abbrev pub year_days : Calendar → ℕ
year_days NoLeap = 365
year_days Days360 = 360
year_days Civil = 0

-- the days of the months 1 to n
unfoldable pub days_of_months : Calendar → ℕ → ℕ
days_of_months c zero = 0
days_of_months c (suc n) = days_of_months c n + month_days c (suc n)

-- the calendar has the date
pub record IsDate (c : Calendar) (d : CalDate) : Type 0 where
  pub year_from : 1 ≤ d.year
  pub year_to : d.year ≤ 9999
  pub month_from : 1 ≤ d.month
  pub month_to : d.month ≤ 12
  pub day_from : 1 ≤ d.day
  pub day_to : d.day ≤ month_days c d.month

-- the day of a month that comes behind so many days of a year
pub record IsDayOfYear (c : Calendar) (rest month day : ℕ) : Type 0 where
  pub month_from : 1 ≤ month
  pub month_to : month ≤ 12
  pub day_from : 1 ≤ day
  pub day_to : day ≤ month_days c month
  pub days : days_of_months c (month - 1) + (day - 1) ≡ rest

-- how many dates there are before a date
abbrev pub place : Calendar → CalDate → ℕ
place c d = (d.year - 1) * year_days c + (days_of_months c (d.month - 1) + (d.day - 1))
