-- Worked texts of units: some spelled from their parts, with the seconds that Python's `datetime` and cftime have, and some
-- that no parts spell, as the reader finds, which is exact.
use Rattle.std.proofs.Common.{◌≡◌, ◌∷◌, ◌++◌, length, List, ℕ, Option, Some, None, pos, negsuc, true, false, codes, nat_le, refl, inl, inr, arith}
use Rattle.std.specs.List.{list_all}
use Rattle.std.specs.Char.{is_ascii_digit}
use Rattle.std.proofs.lemmas.Bool.{leb-true}
use Rattle.xr_types.specs.declared.axis.TimeUnit.TheVariants.{Days, Hours, Seconds}
use Rattle.xr_types.specs.declared.axis.Calendar.TheVariants.{Civil, Days360}
use Rattle.xr_types.specs.declared.axis.Units.{Units}
use Rattle.xr_times.specs.Times.{days_of_years, days_of_months}
use Rattle.xr_times.specs.Units.{is_blank, units_of, unit, behind_word, reference, date, part, marked_time, time_of_day, second}
use Rattle.unit_spellings.specs.Spellings.{AreBlanks, AreDigits, UnitWord, CalendarName, IsUnits}
use Rattle.unit_spellings.proofs.Taken.{is_a_date}
use Rattle.unit_spellings.proofs.Read.{others}

blanks : (t : List ℕ) → nat_le 1 (length t) ≡ true → list_all is_blank t ≡ true → AreBlanks t
blanks t some all = record { some = leb-true _ _ some; blanks = all }

digits : (least most : ℕ) (t : List ℕ) → nat_le least (length t) ≡ true → nat_le (length t) most ≡ true → list_all is_ascii_digit t ≡ true → AreDigits least most t
digits least most t from to all = record { from = leb-true _ _ from; to = leb-true _ _ to; digits = all }

-- no time of day, a day of one digit, no calendar
date_alone : IsUnits (codes "days since 2000-01-1") None (record { unit = Days; reference = pos 946684800; calendar = Civil; early = false })
unfolding days_of_years days_of_months
date_alone =
    record {
      parts = record { word = codes "days"; before = codes " "; behind = codes " "; year = codes "2000"; month = codes "01"; day = codes "1"; clock = None };
      lawful =
          record {
            before = blanks (codes " ") refl refl;
            behind = blanks (codes " ") refl refl;
            year = digits 4 4 (codes "2000") refl refl refl;
            month = digits 1 2 (codes "01") refl refl refl;
            day = digits 1 2 (codes "1") refl refl refl;
            clock = tt;
          };
      spelling = refl;
      says =
          record {
            unit = UnitWord.days;
            calendar = CalendarName.none;
            date = is_a_date Civil 2000 1 1 refl;
            hour = omega arith;
            minute = omega arith;
            second = omega arith;
            reference = refl;
            early = inr (record { le = tt });
          };
    }

-- blanks before the time of day, which has no seconds
hour_and_minute : IsUnits (codes "hour since 1900-1-1  6:30") (Some (codes "gregorian")) (record { unit = Hours; reference = negsuc 2208965399; calendar = Civil; early = false })
unfolding days_of_years days_of_months
hour_and_minute =
    record {
      parts =
          record {
            word = codes "hour";
            before = codes " ";
            behind = codes " ";
            year = codes "1900";
            month = codes "1";
            day = codes "1";
            clock = Some (record { mark = codes "  "; hour = codes "6"; minute = codes "30"; second = None });
          };
      lawful =
          record {
            before = blanks (codes " ") refl refl;
            behind = blanks (codes " ") refl refl;
            year = digits 4 4 (codes "1900") refl refl refl;
            month = digits 1 2 (codes "1") refl refl refl;
            day = digits 1 2 (codes "1") refl refl refl;
            clock = record { mark = inl (blanks (codes "  ") refl refl); hour = digits 1 2 (codes "6") refl refl refl; minute = digits 1 2 (codes "30") refl refl refl; second = tt };
          };
      spelling = refl;
      says =
          record {
            unit = UnitWord.hour;
            calendar = CalendarName.gregorian;
            date = is_a_date Civil 1900 1 1 refl;
            hour = omega arith;
            minute = omega arith;
            second = omega arith;
            reference = refl;
            early = inr (record { le = tt });
          };
    }

-- a tab, a `T`, zeros behind the point, and a day that the civil calendar lacks
all_parts : IsUnits (codes "seconds" ++ 9 ∷ codes " since  2000-02-30T00:00:01.000") (Some (codes "360_day")) (record { unit = Seconds; reference = pos 938217601; calendar = Days360; early = true })
unfolding days_of_years days_of_months
all_parts =
    record {
      parts =
          record {
            word = codes "seconds";
            before = 9 ∷ codes " ";
            behind = codes "  ";
            year = codes "2000";
            month = codes "02";
            day = codes "30";
            clock = Some (record { mark = codes "T"; hour = codes "00"; minute = codes "00"; second = Some (record { second = codes "01"; zeros = Some (codes "000") }) });
          };
      lawful =
          record {
            before = blanks (9 ∷ codes " ") refl refl;
            behind = blanks (codes "  ") refl refl;
            year = digits 4 4 (codes "2000") refl refl refl;
            month = digits 1 2 (codes "02") refl refl refl;
            day = digits 1 2 (codes "30") refl refl refl;
            clock =
                record {
                  mark = inr refl;
                  hour = digits 1 2 (codes "00") refl refl refl;
                  minute = digits 1 2 (codes "00") refl refl refl;
                  second = record { second = digits 1 2 (codes "01") refl refl refl; zeros = record { some = omega arith; zeros = refl } };
                };
          };
      spelling = refl;
      says =
          record {
            unit = UnitWord.seconds;
            calendar = CalendarName.of_360_days;
            date = is_a_date Days360 2000 2 30 refl;
            hour = omega arith;
            minute = omega arith;
            second = omega arith;
            reference = refl;
            early = inl refl;
          };
    }

-- ---- texts that are none

abbrev NoUnits : List ℕ → Option (List ℕ) → Type 0
NoUnits text name = (u : Units) → IsUnits text name u → ⊥

fraction_of_half : NoUnits (codes "days since 2000-01-01 00:00:00.5") None
unfolding units_of unit behind_word reference date part marked_time time_of_day second
fraction_of_half = (others _ None).0 refl

point_alone : NoUnits (codes "days since 2000-01-01 00:00:00.") None
unfolding units_of unit behind_word reference date part marked_time time_of_day second
point_alone = (others _ None).0 refl

hour_24 : NoUnits (codes "days since 2000-01-01 24:00") None
unfolding units_of unit behind_word reference date part marked_time time_of_day second
hour_24 = (others _ None).0 refl

minute_60 : NoUnits (codes "days since 2000-01-01 00:60") None
unfolding units_of unit behind_word reference date part marked_time time_of_day second
minute_60 = (others _ None).0 refl

second_60 : NoUnits (codes "days since 2000-01-01 00:00:60") None
unfolding units_of unit behind_word reference date part marked_time time_of_day second
second_60 = (others _ None).0 refl

hour_alone : NoUnits (codes "days since 2000-01-01 06") None
unfolding units_of unit behind_word reference date part marked_time time_of_day second
hour_alone = (others _ None).0 refl

two_marks : NoUnits (codes "days since 2000-01-01TT00:00") None
unfolding units_of unit behind_word reference date part marked_time time_of_day second
two_marks = (others _ None).0 refl

mark_and_blank : NoUnits (codes "days since 2000-01-01T 00:00") None
unfolding units_of unit behind_word reference date part marked_time time_of_day second
mark_and_blank = (others _ None).0 refl

time_zone : NoUnits (codes "days since 2000-01-01 00:00:00 UTC") None
unfolding units_of unit behind_word reference date part marked_time time_of_day second
time_zone = (others _ None).0 refl

blank_at_the_end : NoUnits (codes "days since 2000-01-01 ") None
unfolding units_of unit behind_word reference date part marked_time time_of_day second
blank_at_the_end = (others _ None).0 refl

month_13 : NoUnits (codes "days since 2000-13-01") None
unfolding units_of unit behind_word reference date part
month_13 = (others _ None).0 refl

no_day_in_1900 : NoUnits (codes "days since 1900-02-29") None
unfolding units_of unit behind_word reference date part
no_day_in_1900 = (others _ None).0 refl

no_day_in_noleap : NoUnits (codes "days since 2000-02-29") (Some (codes "noleap"))
unfolding units_of unit behind_word reference date part
no_day_in_noleap = (others _ (Some (codes "noleap"))).0 refl

year_0 : NoUnits (codes "days since 0000-01-01") (Some (codes "proleptic_gregorian"))
unfolding units_of unit behind_word reference date part
year_0 = (others _ (Some (codes "proleptic_gregorian"))).0 refl

year_of_two_digits : NoUnits (codes "days since 99-01-01") None
unfolding units_of unit behind_word reference date part
year_of_two_digits = (others _ None).0 refl

month_of_three_digits : NoUnits (codes "days since 2000-001-01") None
unfolding units_of unit behind_word reference date part
month_of_three_digits = (others _ None).0 refl

no_blank_before : NoUnits (codes "dayssince 2000-01-01") None
unfolding units_of unit behind_word reference date part
no_blank_before = (others _ None).0 refl

no_blank_behind : NoUnits (codes "days since2000-01-01") None
unfolding units_of unit behind_word reference date part
no_blank_behind = (others _ None).0 refl

blank_at_the_front : NoUnits (codes " days since 2000-01-01") None
unfolding units_of unit behind_word reference date part
blank_at_the_front = (others _ None).0 refl

months : NoUnits (codes "months since 2000-01-01") None
unfolding units_of unit behind_word reference date part
months = (others _ None).0 refl

last_julian_day : NoUnits (codes "days since 1582-10-14") None
unfolding units_of unit behind_word reference date part days_of_years days_of_months
last_julian_day = (others _ None).0 refl

julian : NoUnits (codes "days since 2000-01-01") (Some (codes "julian"))
unfolding units_of unit behind_word reference date part
julian = (others _ (Some (codes "julian"))).0 refl
