-- Which texts are units of times, and what they say: a text is units where parts can be chosen whose spelling it is. Nothing
-- here reads a text. As a grammar:
--
--     units     = unit blanks "since" blanks reference
--     unit      = "day" | "days" | "hour" | "hours" | "minute" | "minutes" | "second" | "seconds"
--     reference = year "-" month "-" day [ ( blanks | "T" ) hour ":" minute [ ":" second [ "." zeros ] ] ]
--     blanks    = one or more spaces and tabs         year  = four digits
--     zeros     = one or more "0"                     month, day, hour, minute, second = one or two digits
--
-- CF Conventions, "Time Coordinate" and "Calendar", which take the form of units from UDUNITS. UDUNITS reads more, and where
-- this project stops is its own choice: these eight words and `since` alone, a year of four digits, from 0001 to 9999, no hour
-- without a minute, zeros alone behind the point of a second, no time zone, and nothing else behind. So is that `standard`
-- isn't read before 1582-10-15.
use Rattle.std.specs.Prelude.{◌≡◌, ◌⊎◌, ◌↔◌, ◌<◌, ◌≤◌, ◌≤ℤ◌, ◌==◌, ℕ, Bool, true, false, List, [], ◌++◌, length, codes, Option, Some, None, IfSome}
use Rattle.std.specs.List.{list_all}
use Rattle.std.specs.Char.{is_ascii_digit}
use Rattle.std.specs.Str.Parse.{digits_value}
use Rattle.xr_types.specs.declared.axis.TimeUnit.{TimeUnit}
use Rattle.xr_types.specs.declared.axis.TimeUnit.TheVariants.{Days, Hours, Minutes, Seconds}
use Rattle.xr_types.specs.declared.axis.Units.{Units}
use Rattle.xr_types.specs.declared.axis.Calendar.{Calendar}
use Rattle.xr_types.specs.declared.axis.Calendar.TheVariants.{Civil, NoLeap, Days360}
use Rattle.xr_times.specs.Times.{IsDate, time_of}
use Rattle.xr_times.specs.Units.{is_blank, units_of}

-- ---- the parts of a text

-- a second, and the zeros behind its point if it has one
pub record SecondParts : Type 0 where
  pub second : List ℕ
  pub zeros : Option (List ℕ)

-- blanks or a `T`, an hour, a minute, and a second if there is one
pub record ClockParts : Type 0 where
  pub mark : List ℕ
  pub hour : List ℕ
  pub minute : List ℕ
  pub second : Option SecondParts

-- the word of a unit, the blanks before and behind `since`, a date, and a time of day if there is one
pub record Parts : Type 0 where
  pub word : List ℕ
  pub before : List ℕ
  pub behind : List ℕ
  pub year : List ℕ
  pub month : List ℕ
  pub day : List ℕ
  pub clock : Option ClockParts

-- ---- their spelling

abbrev pub zeros_spelled : Option (List ℕ) → List ℕ
zeros_spelled None = []
zeros_spelled (Some zeros) = codes "." ++ zeros

abbrev pub second_spelled : Option SecondParts → List ℕ
second_spelled None = []
second_spelled (Some s) = codes ":" ++ (s.second ++ zeros_spelled s.zeros)

abbrev pub clock_spelled : Option ClockParts → List ℕ
clock_spelled None = []
clock_spelled (Some c) = c.mark ++ (c.hour ++ (codes ":" ++ (c.minute ++ second_spelled c.second)))

abbrev pub spelled : Parts → List ℕ
spelled p =
    p.word ++ (p.before ++ (codes "since" ++ (p.behind
    ++ (p.year ++ (codes "-" ++ (p.month ++ (codes "-" ++ (p.day ++ clock_spelled p.clock))))))))

-- ---- which parts there are

-- one or more spaces and tabs
pub record AreBlanks (text : List ℕ) : Type 0 where
  pub some : 1 ≤ length text
  pub blanks : list_all is_blank text ≡ true

-- one or more "0", which is 48
pub record AreZeros (text : List ℕ) : Type 0 where
  pub some : 1 ≤ length text
  pub zeros : list_all (λ c. c == 48) text ≡ true

pub record AreDigits (least most : ℕ) (text : List ℕ) : Type 0 where
  pub from : least ≤ length text
  pub to : length text ≤ most
  pub digits : list_all is_ascii_digit text ≡ true

pub record IsSecond (s : SecondParts) : Type 0 where
  pub second : AreDigits 1 2 s.second
  pub zeros : IfSome s.zeros AreZeros

-- blanks, or one `T`
abbrev pub IsMark : List ℕ → Type 0
IsMark text = AreBlanks text ⊎ (text ≡ codes "T")

pub record IsClock (c : ClockParts) : Type 0 where
  pub mark : IsMark c.mark
  pub hour : AreDigits 1 2 c.hour
  pub minute : AreDigits 1 2 c.minute
  pub second : IfSome c.second IsSecond

pub record AreParts (p : Parts) : Type 0 where
  pub before : AreBlanks p.before
  pub behind : AreBlanks p.behind
  pub year : AreDigits 4 4 p.year
  pub month : AreDigits 1 2 p.month
  pub day : AreDigits 1 2 p.day
  pub clock : IfSome p.clock IsClock

-- ---- what they say

-- the words of the units
pub data UnitWord : List ℕ → TimeUnit → Type 0 where
  day : UnitWord (codes "day") Days
  days : UnitWord (codes "days") Days
  hour : UnitWord (codes "hour") Hours
  hours : UnitWord (codes "hours") Hours
  minute : UnitWord (codes "minute") Minutes
  minutes : UnitWord (codes "minutes") Minutes
  second : UnitWord (codes "second") Seconds
  seconds : UnitWord (codes "seconds") Seconds

abbrev pub number : List ℕ → ℕ
number digits = digits_value 10 digits

-- without a time of day it is midnight, and without a second the minute begins
abbrev pub hour_of : Option ClockParts → ℕ
hour_of None = 0
hour_of (Some c) = number c.hour

abbrev pub minute_of : Option ClockParts → ℕ
minute_of None = 0
minute_of (Some c) = number c.minute

abbrev pub second_in : Option SecondParts → ℕ
second_in None = 0
second_in (Some s) = number s.second

abbrev pub second_of : Option ClockParts → ℕ
second_of None = 0
second_of (Some c) = second_in c.second

-- the calendar of an attribute `calendar`, or of none, and whether times before 1582-10-15 are read in it
pub data CalendarName : Option (List ℕ) → Calendar → Bool → Type 0 where
  none : CalendarName None Civil false
  standard : CalendarName (Some (codes "standard")) Civil false
  gregorian : CalendarName (Some (codes "gregorian")) Civil false
  proleptic_gregorian : CalendarName (Some (codes "proleptic_gregorian")) Civil true
  noleap : CalendarName (Some (codes "noleap")) NoLeap true
  of_365_days : CalendarName (Some (codes "365_day")) NoLeap true
  of_360_days : CalendarName (Some (codes "360_day")) Days360 true

-- the calendar has the date, the day has the time, and the reference is that time
pub record Says (p : Parts) (name : Option (List ℕ)) (u : Units) : Type 0 where
  pub unit : UnitWord p.word u.unit
  pub calendar : CalendarName name u.calendar u.early
  pub date : IsDate u.calendar (number p.year) (number p.month) (number p.day)
  pub hour : hour_of p.clock < 24
  pub minute : minute_of p.clock < 60
  pub second : second_of p.clock < 60
  pub reference : u.reference ≡ time_of u.calendar (number p.year) (number p.month) (number p.day) (hour_of p.clock) (minute_of p.clock) (second_of p.clock)
  -- from 1582-10-15 on, but in a calendar in which earlier times are read
  pub early : (u.early ≡ true) ⊎ (time_of Civil 1582 10 15 0 0 0 ≤ℤ u.reference)

-- a text is units, in the calendar of this name, and says these
pub record IsUnits (text : List ℕ) (name : Option (List ℕ)) (u : Units) : Type 0 where
  pub parts : Parts
  pub lawful : AreParts parts
  pub spelling : text ≡ spelled parts
  pub says : Says parts name u

-- ---- the laws

-- the reader takes exactly these texts, with what they say
abbrev pub ReaderIsExact : Type 0
ReaderIsExact = (text : List ℕ) (name : Option (List ℕ)) (u : Units) → (units_of text name ≡ Some u) ↔ IsUnits text name u

-- it refuses exactly the others
abbrev pub ReaderRefusesOthers : Type 0
ReaderRefusesOthers = (text : List ℕ) (name : Option (List ℕ)) → (units_of text name ≡ None) ↔ ((u : Units) → IsUnits text name u → ⊥)

-- however a text is taken apart, it says one thing
abbrev pub OneMeaning : Type 0
OneMeaning = (text : List ℕ) (name : Option (List ℕ)) (u v : Units) → IsUnits text name u → IsUnits text name v → u ≡ v
