-- Fields that a time has from its day alone.
use Rattle.std.specs.Prelude.{◌+◌, ℕ, Bool, true, false}
use Rattle.xr_types.specs.declared.axis.Calendar.{Calendar}
use Rattle.xr_times.specs.Times.{year_at, month_at, day_at, day_in_year}
use Rattle.xr_times.specs.declared.time.Field.{Field}
use Rattle.xr_times.specs.declared.time.Field.TheVariants.{Year, Month, Day, DayOfYear}

abbrev pub is_of_day : Field → Bool
is_of_day Year = true
is_of_day Month = true
is_of_day Day = true
is_of_day DayOfYear = true
is_of_day field = false

-- the field of a day that has it, and else 0
abbrev pub day_field : Calendar → ℕ → Field → ℕ
day_field c n Year = year_at c n
day_field c n Month = month_at c n
day_field c n Day = day_at c n
day_field c n DayOfYear = day_in_year c n + 1
day_field c n field = 0
