-- Texts of CF time units: `U since R`, a unit and a reference date, with or without a time of day. Blanks are
-- spaces and tabs.
-- CF Conventions, "Time Coordinate" and "Calendar". That fractions of a second are zeros, that no time zone follows, and that
-- `standard` isn't read before 1582-10-15, is this project's own.
use Rattle.std.specs.Prelude.{◌+◌, ◌*◌, ◌==◌, ◌&&◌, ◌||◌, ℕ, ℤ, nat_lt, nat_le, Option, Some, None, option_and_then, Bool, true, false, not, List, [], ◌∷◌, length, drop, codes, if◌then◌else◌}
use Rattle.std.specs.List.{take_while, prefix_len, list_all}
use Rattle.std.specs.Char.{is_ascii_digit}
use Rattle.std.specs.Str.{bytes_eq}
use Rattle.std.specs.Str.Parse.{digits_value}
use Rattle.xr_types.specs.declared.axis.TimeUnit.{TimeUnit}
use Rattle.xr_types.specs.declared.axis.TimeUnit.TheVariants.{Days, Hours, Minutes, Seconds}
use Rattle.xr_types.specs.declared.axis.Units.{Units}
use Rattle.xr_types.specs.declared.axis.Calendar.{Calendar}
use Rattle.xr_types.specs.declared.axis.Calendar.TheVariants.{Civil, NoLeap, Days360}
use Rattle.xr_times.specs.Times.{month_days, time_of, is_gregorian}

infixl 10 ◌>>=◌
abbrev pub ◌>>=◌ : {A B : Type 0} → Option A → (A → Option B) → Option B
o >>= f = option_and_then f o

-- ---- parts at the front of a text: what they say, and the text behind them

abbrev pub is_blank : ℕ → Bool
is_blank c = (c == 32) || (c == 9)

abbrev pub is_dark : ℕ → Bool
is_dark c = not (is_blank c)

-- behind one or more blanks
abbrev pub behind_blanks : List ℕ → Option (List ℕ)
behind_blanks t = if prefix_len is_blank t == 0 then None else Some (drop (prefix_len is_blank t) t)

-- behind one byte
abbrev pub behind_byte : ℕ → List ℕ → Option (List ℕ)
behind_byte c [] = None
behind_byte c (x ∷ t) = if x == c then Some t else None

-- the number that the digits in front write, where they are so many
abbrev pub number : ℕ → ℕ → List ℕ → Option (ℕ × List ℕ)
number least most t =
    if nat_le least (prefix_len is_ascii_digit t) && nat_le (prefix_len is_ascii_digit t) most
    then Some (digits_value 10 (take_while is_ascii_digit t), drop (prefix_len is_ascii_digit t) t)
    else None

-- a byte, and a number of one or two digits behind it
unfoldable pub part : ℕ → List ℕ → Option (ℕ × List ℕ)
part c t = do
  u ← behind_byte c t
  number 1 2 u

-- ---- the reference

-- the calendar has the date, in the years 1 to 9999
abbrev pub is_date : Calendar → ℕ → ℕ → ℕ → Bool
is_date c y m d = nat_le 1 y && nat_le y 9999 && nat_le 1 m && nat_le m 12 && nat_le 1 d && nat_le d (month_days c y m)

-- year, month and day, if the calendar has them
abbrev pub dated : Calendar → ℕ → ℕ → ℕ → List ℕ → Option ((ℕ × ℕ × ℕ) × List ℕ)
dated c y m d t = if is_date c y m d then Some ((y, m, d), t) else None

-- YYYY-M-D; 45 is '-'
unfoldable pub date : Calendar → List ℕ → Option ((ℕ × ℕ × ℕ) × List ℕ)
date c t = do
  y ← number 4 4 t
  m ← part 45 y.1
  d ← part 45 m.1
  dated c y.0 m.0 d.0 d.1

-- nothing, or a point and zeros; 46 is '.'
abbrev pub is_whole : List ℕ → Bool
is_whole [] = true
is_whole (c ∷ t) = (c == 46) && nat_lt 0 (length t) && list_all (λ z. z == 48) t

abbrev pub clock : ℕ → ℕ → ℕ → Option ℕ
clock h m s = if nat_lt h 24 && nat_lt m 60 && nat_lt s 60 then Some (3600 * h + 60 * m + s) else None

-- the seconds behind the minutes, to the text's end: `:s`, with or without a fraction of zeros; 58 is ':'
unfoldable pub second : ℕ → ℕ → List ℕ → Option ℕ
second h m t = do
  s ← part 58 t
  if is_whole s.1 then clock h m s.0 else None

-- nothing behind the minutes, or seconds
abbrev pub seconds : ℕ → ℕ → List ℕ → Option ℕ
seconds h m [] = clock h m 0
seconds h m (c ∷ t) = second h m (c ∷ t)

-- the second of the day that `h:m` or `h:m:s` names, to the text's end
unfoldable pub time_of_day : List ℕ → Option ℕ
time_of_day t = do
  h ← number 1 2 t
  m ← part 58 h.1
  seconds h.0 m.0 m.1

-- behind a `T`, or one or more blanks; 84 is 'T'
abbrev pub behind_mark : List ℕ → Option (List ℕ)
behind_mark [] = None
behind_mark (c ∷ t) = if c == 84 then Some t else behind_blanks (c ∷ t)

unfoldable pub marked_time : List ℕ → Option ℕ
marked_time t = do
  u ← behind_mark t
  time_of_day u

-- the second of the day behind a date: the first where nothing follows
abbrev pub day_second : List ℕ → Option ℕ
day_second [] = Some 0
day_second (c ∷ t) = marked_time (c ∷ t)

unfoldable pub reference : Calendar → List ℕ → Option ℤ
reference c t = do
  d ← date c t
  s ← day_second d.1
  Some (time_of c d.0.0 d.0.1 d.0.2 0 0 s)

-- ---- the whole text

abbrev pub unit_named : List ℕ → Option TimeUnit
unit_named w =
    if bytes_eq w (codes "day") || bytes_eq w (codes "days") then Some Days
    else (if bytes_eq w (codes "hour") || bytes_eq w (codes "hours") then Some Hours
    else (if bytes_eq w (codes "minute") || bytes_eq w (codes "minutes") then Some Minutes
    else (if bytes_eq w (codes "second") || bytes_eq w (codes "seconds") then Some Seconds
    else None)))

-- the unit, and the text behind its word
unfoldable pub unit : List ℕ → Option (TimeUnit × List ℕ)
unit t = do
  u ← unit_named (take_while is_dark t)
  Some (u, drop (prefix_len is_dark t) t)

abbrev pub behind_since : List ℕ → Option (List ℕ)
behind_since t = if bytes_eq (take_while is_dark t) (codes "since") then Some (drop (prefix_len is_dark t) t) else None

-- behind `since` and the blanks round it
unfoldable pub behind_word : List ℕ → Option (List ℕ)
behind_word t = do
  u ← behind_blanks t
  v ← behind_since u
  behind_blanks v

-- the calendar of a name, and whether times before 1582-10-15 are read in it; without a name the calendar is `standard`
abbrev pub calendar_named : Option (List ℕ) → Option (Calendar × Bool)
calendar_named None = Some (Civil, false)
calendar_named (Some name) =
    if bytes_eq name (codes "standard") || bytes_eq name (codes "gregorian") then Some (Civil, false)
    else (if bytes_eq name (codes "proleptic_gregorian") then Some (Civil, true)
    else (if bytes_eq name (codes "noleap") || bytes_eq name (codes "365_day") then Some (NoLeap, true)
    else (if bytes_eq name (codes "360_day") then Some (Days360, true)
    else None)))

abbrev pub units : TimeUnit → ℤ → Calendar → Bool → Option Units
units u r c early = if early || is_gregorian r then Some (record { unit = u; reference = r; calendar = c; early = early }) else None

-- the units that a text and the name of a calendar stand for
unfoldable pub units_of : List ℕ → Option (List ℕ) → Option Units
units_of t name = do
  u ← unit t
  v ← behind_word u.1
  c ← calendar_named name
  r ← reference c.0 v
  units u.0 r c.0 c.1
