-- The calendars `noleap` and `360_day`, in which each year has the same months, and the numbers of their dates.
-- CF Conventions, "Calendar". That the years are 1 to 9999 is this project's own.
use Rattle.std.specs.Prelude.{◌≡◌, ◌-◌, ℕ, ℤ, pos, ◌+ℤ◌, List, [], ◌∷◌, map, slice_get, slice_index, Some}
use Rattle.std.specs.List.{flat_map, range_with_len}
use Rattle.xr_types.specs.declared.axis.Calendar.{Calendar}
use Rattle.xr_types.specs.declared.axis.Calendar.TheVariants.{Civil, NoLeap, Days360}
use Rattle.cf_calendar.specs.declared.date.CalDate.{CalDate}

-- the days of the months of each year; the years of the civil calendar aren't alike, and it isn't served here
abbrev pub month_lengths : Calendar → List ℕ
month_lengths NoLeap = 31 ∷ 28 ∷ 31 ∷ 30 ∷ 31 ∷ 30 ∷ 31 ∷ 31 ∷ 30 ∷ 31 ∷ 30 ∷ 31 ∷ []
month_lengths Days360 = 30 ∷ 30 ∷ 30 ∷ 30 ∷ 30 ∷ 30 ∷ 30 ∷ 30 ∷ 30 ∷ 30 ∷ 30 ∷ 30 ∷ []
month_lengths Civil = 0 ∷ 0 ∷ 0 ∷ 0 ∷ 0 ∷ 0 ∷ 0 ∷ 0 ∷ 0 ∷ 0 ∷ 0 ∷ 0 ∷ []

unfoldable pub month_days : Calendar → ℕ → ℕ
month_days c m = slice_index (month_lengths c) (m - 1)

abbrev pub date : ℕ → ℕ → ℕ → CalDate
date y m d = record { year = y; month = m; day = d }

-- the dates of a month, of a year, and of the years 1 to n, in order
unfoldable pub dates_of_month : Calendar → ℕ → ℕ → List CalDate
dates_of_month c y m = map (date y m) (range_with_len 1 (month_days c m))

unfoldable pub dates_of_year : Calendar → ℕ → List CalDate
dates_of_year c y = flat_map (dates_of_month c y) (range_with_len 1 12)

unfoldable pub dates_of_years : Calendar → ℕ → List CalDate
dates_of_years c n = flat_map (dates_of_year c) (range_with_len 1 n)

-- the number of a date of the years 1 to 9999: that of 1970-01-01 is 0, and the next date's is one more
pub record HasNumber (c : Calendar) (d : CalDate) (n : ℤ) : Type 0 where
  pub place : ℕ
  pub first : ℕ
  pub here : slice_get (dates_of_years c 9999) place ≡ Some d
  pub there : slice_get (dates_of_years c 9999) first ≡ Some (date 1970 1 1)
  pub number : (n +ℤ pos first) ≡ pos place

-- a date has this year, month and day
pub record IsNamed (d : CalDate) (y m n : ℤ) : Type 0 where
  pub year : pos d.year ≡ y
  pub month : pos d.month ≡ m
  pub day : pos d.day ≡ n

-- a year, a month and a day name a date with this number
pub record IsDay (c : Calendar) (year month day n : ℤ) : Type 0 where
  pub date : CalDate
  pub named : IsNamed date year month day
  pub number : HasNumber c date n
