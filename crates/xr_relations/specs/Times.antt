-- times(units, LIST, calendar="proleptic_gregorian"): counts of a unit from a reference, as labels (CF Conventions, "Time
-- Coordinate").
use Rattle.std.specs.Prelude.{ℕ, ℤ, codes, List, [], ◌∷◌, Option, Some, None, Result, Ok, Err}
use Rattle.xr_types.specs.Results.{◌>>=◌}
use Rattle.xr_types.specs.declared.axis.TimeCoding.{TimeCoding}
use Rattle.xr_types.specs.declared.axis.Units.{Units}
use Rattle.xr_types.specs.declared.fault.Fault.{Fault}
use Rattle.xr_types.specs.declared.fault.Fault.TheVariants.{OutOfRange}
use Rattle.xr_times.specs.Times.{decoded}
use Rattle.xr_times.specs.Units.{calendar_named, units_of}
use Rattle.xr_defs.specs.Arguments.{as_text, unfit, wrong}
use Rattle.xr_defs.specs.Building.{argument, bound, option, required}
use Rattle.xr_defs.specs.Meanings.{Given, Sequence, Times, Value}
use Rattle.xr_defs.specs.Selecting.{as_numbers}

unfoldable pub counts_given : Value → Result (List ℤ) Fault
counts_given (Sequence vs) = as_numbers vs
counts_given v = wrong

-- the name of a calendar that is read
unfoldable pub calendar_called : List ℕ → Result (List ℕ) Fault
calendar_called name = elim (calendar_named (Some name)) [ None ↦ unfit | Some c ↦ Ok name ]

unfoldable pub calendar_given : Option Value → Result (List ℕ) Fault
calendar_given None = Ok (codes "proleptic_gregorian")
calendar_given (Some v) = as_text v >>= λ name. calendar_called name

unfoldable pub units_given : List ℕ → List ℕ → Result Units Fault
units_given text calendar = elim (units_of text (Some calendar)) [ None ↦ unfit | Some units ↦ Ok units ]

unfoldable pub time_at : Units → ℤ → Result ℤ Fault
time_at units n = elim (decoded units n) [ None ↦ Err OutOfRange | Some t ↦ Ok t ]

unfoldable pub times_at : Units → List ℤ → Result (List ℤ) Fault
times_at units [] = Ok []
times_at units (n ∷ ns) = time_at units n >>= λ t. times_at units ns >>= λ ts. Ok (t ∷ ts)

-- the texts stay, as a file has them
abbrev pub coded : Units → List ℕ → List ℕ → TimeCoding
coded units text calendar = record { units = units; units_text = text; calendar_text = Some calendar }

-- the units are read in the calendar, once all arguments are read; a count is refused outside the times that they decode
unfoldable pub times_by : Value → Value → Option Value → Result Value Fault
times_by u l c =
    as_text u >>= λ text. counts_given l >>= λ ns. calendar_given c >>= λ calendar. units_given text calendar >>= λ units.
    times_at units ns >>= λ ts. Ok (Times (coded units text calendar) ts)

-- the list has a name that no keyword has: it stands in its place alone
unfoldable pub times_given : Given → Result Value Fault
times_given g =
    bound (codes "units" ∷ codes "list of counts" ∷ codes "calendar" ∷ []) g >>= λ vs. required (argument vs 0) >>= λ u. required (argument vs 1) >>= λ l. times_by u l (option vs 2)
