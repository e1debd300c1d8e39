-- Dates and times as Python's `calendar` and `datetime` have them.
use Rattle.std.proofs.Common.{◌≡◌, ◌+◌, refl, pos, negsuc, true, false, Some, None, codes}
use Rattle.xr_types.specs.declared.axis.TimeUnit.TheVariants.{Days}
use Rattle.xr_types.specs.declared.axis.Calendar.TheVariants.{Civil, NoLeap, Days360}
use Rattle.xr_times.specs.Times.{all_days, month_days, days_of_years, days_of_months, day_number, decoded, date_period, time_of}
use Rattle.xr_times.specs.Units.{calendar_named}

february_1900 : month_days Civil 1900 2 ≡ 28
february_1900 = refl

february_2000 : month_days Civil 2000 2 ≡ 29
february_2000 = refl

-- date(4, 3, 1).toordinal() - 1
march_4 : day_number Civil 4 3 1 ≡ 1155
unfolding days_of_years days_of_months
march_4 = refl

-- a count of days from 1900-01-01, in `standard`: 2000-01-01, the first Gregorian day, and the day before
days_later : decoded (record { unit = Days; reference = negsuc 2208988799; calendar = Civil; early = false }) (pos 36524) ≡ Some (pos 946684800)
days_later = refl

first_gregorian : decoded (record { unit = Days; reference = negsuc 2208988799; calendar = Civil; early = false }) (negsuc 115859) ≡ Some (negsuc 12219292799)
first_gregorian = refl

last_julian : decoded (record { unit = Days; reference = negsuc 2208988799; calendar = Civil; early = false }) (negsuc 115860) ≡ None
last_julian = refl

no_such_day : date_period Civil (codes "1900-02-29") ≡ None
no_such_day = refl

-- ---- calendars whose years are alike, as cftime has them

february_noleap : month_days NoLeap 2000 2 ≡ 28
february_noleap = refl

february_360 : month_days Days360 2000 2 ≡ 30
february_360 = refl

-- the day after 28 February is 1 March in `noleap`, and 30 February there is in `360_day`
march_noleap : day_number NoLeap 4 3 1 ≡ day_number NoLeap 4 2 28 + 1
unfolding days_of_years days_of_months
march_noleap = refl

march_360 : day_number Days360 4 3 1 ≡ day_number Days360 4 2 30 + 1
unfolding days_of_years days_of_months
march_360 = refl

leap_day : date_period NoLeap (codes "2000-02-29") ≡ None
leap_day = refl

day_31 : date_period Days360 (codes "2000-01-31") ≡ None
day_31 = refl

-- 1970-01-01 is time 0 in each
first_civil : time_of Civil 1970 1 1 0 0 0 ≡ pos 0
unfolding days_of_years days_of_months
first_civil = refl

first_noleap : time_of NoLeap 1970 1 1 0 0 0 ≡ pos 0
unfolding days_of_years days_of_months
first_noleap = refl

first_360 : time_of Days360 1970 1 1 0 0 0 ≡ pos 0
unfolding days_of_years days_of_months
first_360 = refl

-- the years 1 to 9999
all_civil : all_days Civil ≡ day_number Civil 9999 12 31 + 1
unfolding days_of_years days_of_months
all_civil = refl

all_noleap : all_days NoLeap ≡ day_number NoLeap 9999 12 31 + 1
unfolding days_of_years days_of_months
all_noleap = refl

all_360 : all_days Days360 ≡ day_number Days360 9999 12 30 + 1
unfolding days_of_years days_of_months
all_360 = refl

-- another calendar's dates are read with its name; one that isn't known isn't read
named_365 : calendar_named (Some (codes "365_day")) ≡ Some (NoLeap, true)
named_365 = refl

named_julian : calendar_named (Some (codes "julian")) ≡ None
named_julian = refl

one_digit : date_period Civil (codes "2000-1-11") ≡ None
one_digit = refl
