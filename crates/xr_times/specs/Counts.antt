-- Times as a file counts them when it is written.
-- CF Conventions, "Time Coordinate". That the unit is made finer where a count wouldn't be whole is this
-- project's own.
use Rattle.std.specs.Prelude.{◌≡◌, ◌%◌, ◌==◌, ℤ, ◌-ℤ◌, unsigned_abs, Bool, true, false, List, Option, Some, None, if◌then◌else◌}
use Rattle.std.specs.List.{list_all}
use Rattle.xr_types.specs.declared.axis.TimeUnit.{TimeUnit}
use Rattle.xr_types.specs.declared.axis.TimeUnit.TheVariants.{Days, Hours, Minutes, Seconds}
use Rattle.xr_types.specs.declared.axis.Units.{Units}
use Rattle.xr_times.specs.Times.{unit_seconds, counted}

-- a time is so many whole units before or after a reference
abbrev pub is_count : TimeUnit → ℤ → ℤ → Bool
is_count unit reference t = unsigned_abs (t -ℤ reference) % unit_seconds unit == 0

abbrev pub are_counts : TimeUnit → ℤ → List ℤ → Bool
are_counts unit reference ts = list_all (λ t. is_count unit reference t) ts

-- the count that stands for a time, where it is whole
abbrev pub IsCount : Units → ℤ → Option ℤ → Type 0
IsCount units t (Some n) = (is_count units.unit units.reference t ≡ true) × (counted units n ≡ t)
IsCount units t None = is_count units.unit units.reference t ≡ false

-- the times' own unit where each is a whole count of it, else the first of days, hours, minutes and seconds of
-- which each is
abbrev pub written_unit : Units → List ℤ → TimeUnit
written_unit units ts =
    if are_counts units.unit units.reference ts then units.unit
    else (if are_counts Days units.reference ts then Days
    else (if are_counts Hours units.reference ts then Hours
    else (if are_counts Minutes units.reference ts then Minutes
    else Seconds)))
