-- demo(n): a dataset of any length to try calls on. Its one variable lies over n times, six hours apart, and has six cells at each;
-- each cell follows from its number in row order.
use Rattle.std.specs.Prelude.{◌*◌, ◌%◌, ◌&&◌, ℕ, ℤ, pos, ◌-ℤ◌, int_le, unsigned_abs, false, List, [], ◌∷◌, map, Option, Some, None, Result, Ok, codes}
use Rattle.std.specs.List.{range_with_len}
use Rattle.xr_types.specs.Results.{◌>>=◌, unless}
use Rattle.xr_types.specs.declared.axis.Axis.{Axis}
use Rattle.xr_types.specs.declared.axis.Calendar.TheVariants.{Civil}
use Rattle.xr_types.specs.declared.axis.Labels.{Labels}
use Rattle.xr_types.specs.declared.axis.LabelList.TheVariants.{Times}
use Rattle.xr_types.specs.declared.axis.TimeCoding.{TimeCoding}
use Rattle.xr_types.specs.declared.axis.TimeUnit.TheVariants.{Hours}
use Rattle.xr_types.specs.declared.axis.Units.{Units}
use Rattle.xr_types.specs.declared.fault.Fault.{Fault}
use Rattle.xr_types.specs.declared.fault.Fault.TheVariants.{BadArgument}
use Rattle.xr_types.specs.declared.kind.DType.TheVariants.{Int32}
use Rattle.xr_times.specs.Times.{counted}
use Rattle.xr_defs.specs.Arguments.{only}
use Rattle.xr_defs.specs.Meanings.{Given}
use Rattle.xr_defs.specs.Selecting.{as_number}
use Rattle.xr_defs.specs.Values.{Dataset, Variable}

-- ---- the times: the hours 0, 6, 12 and so on since 2000-01-01, 946,684,800 seconds after 1970-01-01

-- the text names no calendar, so that it is `standard`
abbrev pub hours_since_2000 : Units
hours_since_2000 = record { unit = Hours; reference = pos 946684800; calendar = Civil; early = false }

abbrev pub coding : TimeCoding
coding = record { units = hours_since_2000; units_text = codes "hours since 2000-01-01"; calendar_text = None }

abbrev pub times : ℕ → List ℤ
times n = map (λ i. counted hours_since_2000 (pos (6 * i))) (range_with_len 0 n)

abbrev pub labels : ℕ → Labels
labels n = record { list = Times coding (times n); attrs = [] }

-- ---- the cells

-- the one of number i
abbrev pub cell : ℕ → ℤ
cell i = pos (i * 31 % 1009) -ℤ pos 504

-- six at each of n times
abbrev pub cells : ℕ → List (Option ℤ)
cells n = map (λ i. Some (cell i)) (range_with_len 0 (n * 6))

-- ---- the dataset

abbrev pub name : List ℕ
name = codes "v"

abbrev pub dims : List (List ℕ)
dims = codes "time" ∷ codes "y" ∷ codes "x" ∷ []

abbrev pub bare : List ℕ → ℕ → Axis
bare name n = record { name = name; size = n; labels = None }

abbrev pub axes : ℕ → List Axis
axes n = record { name = codes "time"; size = n; labels = Some (labels n) } ∷ bare (codes "y") 2 ∷ bare (codes "x") 3 ∷ []

abbrev pub variable : ℕ → Variable
variable n = record { name = name; dims = dims; kind = Int32; masked = false; attrs = []; cells = cells n }

abbrev pub demo_set : ℕ → Dataset
demo_set n = record { axes = axes n; coords = []; vars = variable n ∷ []; attrs = []; skipped = [] }

-- ---- demo(n), for n from 1 to 1,000,000

unfoldable pub length_of : ℤ → Result ℕ Fault
length_of n = unless (int_le (pos 1) n && int_le n (pos 1000000)) BadArgument >>= λ u. Ok (unsigned_abs n)

unfoldable pub demo : Given → Result Dataset Fault
demo g = only (codes "n") g >>= λ v. as_number v >>= λ n. length_of n >>= λ times. Ok (demo_set times)
