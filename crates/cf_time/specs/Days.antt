-- The date of a day, by its numbers.
use Rattle.std.specs.Prelude.{◌≡◌, ◌+◌, ℕ}
use Rattle.xr_types.specs.declared.axis.Calendar.{Calendar}
use Rattle.xr_times.specs.Times.{IsDate, day_number, year_at, month_at, day_at, day_in_year}

-- a year, a month, a day of it and a day of the year are those of the day that comes n days after 0001-01-01
pub record DateOf (c : Calendar) (y m d o n : ℕ) : Type 0 where
  pub year : y ≡ year_at c n
  pub month : m ≡ month_at c n
  pub day : d ≡ day_at c n
  pub ordinal : o ≡ day_in_year c n + 1
  pub number : day_number c (year_at c n) (month_at c n) (day_at c n) ≡ n
  pub date : IsDate c (year_at c n) (month_at c n) (day_at c n)
