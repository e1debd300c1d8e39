-- Worked date texts: some spelled from their parts, with the seconds that Python's `datetime` has, and some that no parts spell,
-- as the reader finds, which is exact.
use Rattle.std.proofs.Common.{◌≡◌, length, List, ℕ, pos, negsuc, true, codes, refl, inr, arith}
use Rattle.std.specs.List.{list_all}
use Rattle.std.specs.Char.{is_ascii_digit}
use Rattle.xr_types.specs.declared.axis.Calendar.{Calendar}
use Rattle.xr_types.specs.declared.axis.Calendar.TheVariants.{Civil, NoLeap, Days360}
use Rattle.xr_times.specs.declared.time.Period.{Period}
use Rattle.xr_times.specs.Times.{days_of_years, days_of_months, has_clock}
use Rattle.unit_spellings.specs.Spellings.{AreDigits}
use Rattle.unit_spellings.specs.DateTexts.{Year, Month, Day, Second, IsDateText}
use Rattle.unit_spellings.proofs.Taken.{is_a_date}
use Rattle.unit_spellings.proofs.DatesRead.{other_dates}

two : (t : List ℕ) → length t ≡ 2 → list_all is_ascii_digit t ≡ true → AreDigits 2 2 t
two t e all = record { from = omega arith; to = omega arith; digits = all }

four : (t : List ℕ) → length t ≡ 4 → list_all is_ascii_digit t ≡ true → AreDigits 4 4 t
four t e all = record { from = omega arith; to = omega arith; digits = all }

year_2000 : IsDateText Civil (codes "2000") (record { first = pos 946684800; last = pos 978307199 })
unfolding days_of_years days_of_months
year_2000 =
    record {
      parts = Year (codes "2000");
      lawful = record { year = four (codes "2000") refl refl; month = two (codes "01") refl refl; day = two (codes "01") refl refl; date = is_a_date Civil 2000 1 1 refl };
      spelling = refl;
      times = refl;
    }

february_2000 : IsDateText Civil (codes "2000-02") (record { first = pos 949363200; last = pos 951868799 })
unfolding days_of_years days_of_months
february_2000 =
    record {
      parts = Month (codes "2000") (codes "02");
      lawful = record { year = four (codes "2000") refl refl; month = two (codes "02") refl refl; day = two (codes "01") refl refl; date = is_a_date Civil 2000 2 1 refl };
      spelling = refl;
      times = refl;
    }

last_day_of_1969 : IsDateText Civil (codes "1969-12-31") (record { first = negsuc 86399; last = negsuc 0 })
unfolding days_of_years days_of_months
last_day_of_1969 =
    record {
      parts = Day (codes "1969") (codes "12") (codes "31");
      lawful = record { year = four (codes "1969") refl refl; month = two (codes "12") refl refl; day = two (codes "31") refl refl; date = is_a_date Civil 1969 12 31 refl };
      spelling = refl;
      times = refl;
    }

-- behind a blank
one_second : IsDateText Civil (codes "2000-02-29 06:30:05") (record { first = pos 951805805; last = pos 951805805 })
unfolding days_of_years days_of_months
one_second =
    record {
      parts = Second (codes "2000") (codes "02") (codes "29") 32 (codes "06") (codes "30") (codes "05");
      lawful = (
        record { year = four (codes "2000") refl refl; month = two (codes "02") refl refl; day = two (codes "29") refl refl; date = is_a_date Civil 2000 2 29 refl },
        record {
          mark = inr refl;
          hour = two (codes "06") refl refl;
          minute = two (codes "30") refl refl;
          second = two (codes "05") refl refl;
          hours = omega arith;
          minutes = omega arith;
          seconds = omega arith;
        },
      );
      spelling = refl;
      times = refl;
    }

-- ---- texts that are none

abbrev NoDate : Calendar → List ℕ → Type 0
NoDate c text = (p : Period) → IsDateText c text p → ⊥

no_day_in_1900 : NoDate Civil (codes "1900-02-29")
no_day_in_1900 = (other_dates Civil _).0 refl

no_day_in_noleap : NoDate NoLeap (codes "2000-02-29")
no_day_in_noleap = (other_dates NoLeap _).0 refl

no_day_in_360 : NoDate Days360 (codes "2000-01-31")
no_day_in_360 = (other_dates Days360 _).0 refl

month_13 : NoDate Civil (codes "2000-13")
month_13 = (other_dates Civil _).0 refl

month_of_one_digit : NoDate Civil (codes "2000-1")
month_of_one_digit = (other_dates Civil _).0 refl

year_0 : NoDate Civil (codes "0000")
year_0 = (other_dates Civil _).0 refl

hour_24 : NoDate Civil (codes "2000-01-01T24:00:00")
unfolding has_clock
hour_24 = (other_dates Civil _).0 refl

no_second : NoDate Civil (codes "2000-01-01T00:00")
no_second = (other_dates Civil _).0 refl

two_blanks : NoDate Civil (codes "2000-01-01  00:00:00")
two_blanks = (other_dates Civil _).0 refl

fraction : NoDate Civil (codes "2000-01-01T00:00:00.0")
fraction = (other_dates Civil _).0 refl

time_zone : NoDate Civil (codes "2000-01-01T00:00:00Z")
time_zone = (other_dates Civil _).0 refl

other_mark : NoDate Civil (codes "2000-01-01t00:00:00")
unfolding has_clock
other_mark = (other_dates Civil _).0 refl
