-- The calls that group, by their arguments: `groupby("d.field")`, `groupby("c")`, `resample(d="freq")`, `rolling(d=w, center, min_periods)`,
-- `coarsen(d=w, .., boundary, coord_func)` (xarray, `DataArray` and `Dataset`).
use Rattle.std.specs.Prelude.{◌==◌, ◌%◌, ◌||◌, ◌&&◌, ◌+◌, ◌*◌, ◌-◌, nat_lt, nat_le, ℕ, ℤ, pos, negsuc, Bool, true, false, not, List, [], ◌∷◌, length, filter, fold, Option, Some, None, Result, Ok, codes, if◌then◌else◌}
use Rattle.std.specs.Str.{bytes_eq}
use Rattle.xr_types.specs.Results.{◌>>=◌, unless}
use Rattle.xr_types.specs.declared.axis.Axis.{Axis}
use Rattle.xr_types.specs.declared.fault.Fault.{Fault}
use Rattle.xr_types.specs.declared.fault.Fault.TheVariants.{BadArgument, WrongKind}
use Rattle.xr_types.specs.declared.operation.FoldKind.{FoldKind}
use Rattle.xr_types.specs.declared.operation.FoldKind.TheVariants.{Sum, Min, Max}
use Rattle.xr_times.specs.Times.{is_digit}
use Rattle.xr_times.specs.declared.time.Field.{Field}
use Rattle.xr_times.specs.declared.time.Field.TheVariants.{Year, Month, Day, Hour, Minute, Second, DayOfYear, DayOfWeek}
use Rattle.xr_times.specs.declared.time.Freq.{Freq}
use Rattle.xr_times.specs.declared.time.Freq.TheVariants.{Seconds, Months, Years}
use Rattle.xr_defs.specs.Arguments.{wrong, unfit, as_text}
use Rattle.xr_defs.specs.Building.{given_value, is_chars, keyword}
use Rattle.xr_defs.specs.Meanings as of
use Rattle.xr_defs.specs.Meanings.{Given, Value}
use Rattle.xr_defs.specs.Selecting.{as_number}
use Rattle.xr_defs.specs.Values.{DataArray, Dataset}
use Rattle.xr_defs.specs.WellFormed.{variable_names}
use Rattle.xr_defs.specs.declared.grouping.BlockSize.{BlockSize}
use Rattle.xr_defs.specs.declared.grouping.Grouping.{Grouping}
use Rattle.xr_defs.specs.declared.grouping.Grouping.TheVariants.{Dates, Coordinate, Bins, Windows, Blocks}
use Rattle.xr_defs.specs.declared.value.Coord.{Coord}
use Rattle.xr_operations.specs.CellMethods.{the_one}
use Rattle.xr_operations.specs.Reductions.{without_chars}
use Rattle.xr_groups.specs.declared.maker.Maker.{Maker}
use Rattle.xr_groups.specs.declared.maker.Maker.TheVariants.{GroupBy, Resample, Rolling, Coarsen}
use Rattle.xr_groups.specs.Groupings.{grouped_changes}

unfoldable pub maker_named : List ℕ → Option Maker
maker_named name =
    if bytes_eq name (codes "groupby") then Some GroupBy
    else (if bytes_eq name (codes "resample") then Some Resample
    else (if bytes_eq name (codes "rolling") then Some Rolling
    else (if bytes_eq name (codes "coarsen") then Some Coarsen else None)))

-- ---- groupby("d.field"), groupby("c")

unfoldable pub field_called : List ℕ → Result Field Fault
field_called t =
    if bytes_eq t (codes "year") then Ok Year
    else (if bytes_eq t (codes "month") then Ok Month
    else (if bytes_eq t (codes "day") then Ok Day
    else (if bytes_eq t (codes "hour") then Ok Hour
    else (if bytes_eq t (codes "minute") then Ok Minute
    else (if bytes_eq t (codes "second") then Ok Second
    else (if bytes_eq t (codes "dayofyear") then Ok DayOfYear
    else (if bytes_eq t (codes "dayofweek") then Ok DayOfWeek else unfit)))))))

-- what stands before the last point, 46, and behind it
unfoldable pub split_last : List ℕ → Option (List ℕ × List ℕ)
split_last [] = None
split_last (c ∷ t) = elim (split_last t) [ Some s ↦ Some (c ∷ s.0, s.1) | None ↦ if c == 46 then Some ([], t) else None ]

-- a text with a point names a field of dates, and no coordinate
unfoldable pub groups_called : List ℕ → Result Grouping Fault
groups_called t = elim (split_last t) [ None ↦ Ok (Coordinate t) | Some s ↦ field_called s.1 >>= λ field. Ok (Dates s.0 field) ]

unfoldable pub groupby_given : Given → Result Grouping Fault
groupby_given g = the_one g >>= λ v. as_text v >>= λ t. groups_called t

-- ---- resample(d="freq"): `MS`, `YS`, or `D`, `h`, `min` or `s` behind a number from 1 to 1,000,000, or without one

unfoldable pub unit_called : List ℕ → Option ℕ
unit_called t =
    if bytes_eq t (codes "D") then Some 86400
    else (if bytes_eq t (codes "h") then Some 3600
    else (if bytes_eq t (codes "min") then Some 60
    else (if bytes_eq t (codes "s") then Some 1 else None)))

-- the digits in front, and what stands behind them
abbrev pub digits : List ℕ → List ℕ
digits [] = []
digits (c ∷ t) = if is_digit c then c ∷ digits t else []

abbrev pub behind_digits : List ℕ → List ℕ
behind_digits [] = []
behind_digits (c ∷ t) = if is_digit c then behind_digits t else (c ∷ t)

abbrev pub number_of : List ℕ → ℕ
number_of ds = fold (λ n c. 10 * n + (c - 48)) 0 ds

-- as the script writes its numbers, without a digit 0 in front
abbrev pub is_plain : List ℕ → Bool
is_plain [] = true
is_plain (c ∷ t) = not (c == 48)

abbrev pub count_of : List ℕ → ℕ
count_of ds = if length ds == 0 then 1 else number_of ds

unfoldable pub width_called : List ℕ → Result Freq Fault
width_called t =
    let ds = digits t in
    elim (unit_called (behind_digits t)) [
      | None ↦ unfit
      | Some unit ↦ unless (is_plain ds && nat_le (length ds) 7 && nat_le (count_of ds) 1000000) BadArgument >>= λ u. Ok (Seconds (count_of ds * unit))
    ]

unfoldable pub freq_called : List ℕ → Result Freq Fault
freq_called t = if bytes_eq t (codes "MS") then Ok Months else (if bytes_eq t (codes "YS") then Ok Years else width_called t)

-- the one dimension that is named
unfoldable pub sole_keyword : List (List ℕ × Value) → Result (List ℕ × Value) Fault
sole_keyword (kv ∷ []) = Ok kv
sole_keyword kvs = unfit

unfoldable pub resample_given : Given → Result Grouping Fault
resample_given g =
    unless (length g.plain == 0) BadArgument >>= λ u. sole_keyword g.keyed >>= λ kv. as_text kv.1 >>= λ t. freq_called t >>= λ freq. Ok (Bins kv.0 freq)

-- ---- sizes of windows and blocks

unfoldable pub from_one : ℤ → Result ℕ Fault
from_one (pos n) = unless (nat_le 1 n) BadArgument >>= λ u. Ok n
from_one (negsuc n) = unfit

-- no axis has 2^32 positions: above that a size says no more than whether it is even
abbrev pub bounded : ℕ → ℕ
bounded n = if nat_lt n 4294967296 then n else 4294967296 + n % 2

unfoldable pub size_given : Value → Result ℕ Fault
size_given v = as_number v >>= λ n. from_one n

-- ---- rolling(d=w, center=False, min_periods)

abbrev pub is_rolling_option : List ℕ × Value → Bool
is_rolling_option kv = bytes_eq kv.0 (codes "center") || bytes_eq kv.0 (codes "min_periods")

unfoldable pub center_given : Option Value → Result Bool Fault
center_given None = Ok false
center_given (Some (of.Truth b)) = Ok b
center_given (Some v) = wrong

unfoldable pub least_given : Option Value → Result (Option ℕ) Fault
least_given None = Ok None
least_given (Some v) = size_given v >>= λ m. Ok (Some m)

-- all positions of a window, where it isn't given
unfoldable pub least_of : Option ℕ → ℕ → Result ℕ Fault
least_of None w = Ok w
least_of (Some m) w = unless (nat_le m w) BadArgument >>= λ u. Ok m

unfoldable pub rolling_given : Given → Result Grouping Fault
rolling_given g =
    unless (length g.plain == 0) BadArgument >>= λ u. sole_keyword (filter (λ kv. not (is_rolling_option kv)) g.keyed) >>= λ kv.
    center_given (given_value (keyword (codes "center") g.keyed)) >>= λ center. least_given (given_value (keyword (codes "min_periods") g.keyed)) >>= λ m.
    size_given kv.1 >>= λ w. least_of m w >>= λ least. Ok (Windows kv.0 (bounded w) center (bounded least))

-- ---- coarsen(d=w, .., boundary="exact", coord_func)

abbrev pub is_coarsen_option : List ℕ × Value → Bool
is_coarsen_option kv = bytes_eq kv.0 (codes "boundary") || bytes_eq kv.0 (codes "coord_func")

unfoldable pub boundary_called : List ℕ → Result Bool Fault
boundary_called t = if bytes_eq t (codes "exact") then Ok false else (if bytes_eq t (codes "trim") then Ok true else unfit)

-- whether a rest that fills no block is left out
unfoldable pub trim_given : Option Value → Result Bool Fault
trim_given None = Ok false
trim_given (Some v) = as_text v >>= λ t. boundary_called t

unfoldable pub func_called : List ℕ → Result FoldKind Fault
func_called t = if bytes_eq t (codes "min") then Ok Min else (if bytes_eq t (codes "max") then Ok Max else (if bytes_eq t (codes "sum") then Ok Sum else unfit))

unfoldable pub func_given : Option Value → Result (Option FoldKind) Fault
func_given None = Ok None
func_given (Some v) = as_text v >>= λ t. func_called t >>= λ k. Ok (Some k)

unfoldable pub block_given : List ℕ × Value → Result BlockSize Fault
block_given kv = size_given kv.1 >>= λ w. Ok (record { dimension = kv.0; size = bounded w })

unfoldable pub blocks_given : List (List ℕ × Value) → Result (List BlockSize) Fault
blocks_given [] = Ok []
blocks_given (kv ∷ kvs) = block_given kv >>= λ b. blocks_given kvs >>= λ bs. Ok (b ∷ bs)

unfoldable pub coarsen_given : Given → Result Grouping Fault
coarsen_given g =
    unless (length g.plain == 0) BadArgument >>= λ u. trim_given (given_value (keyword (codes "boundary") g.keyed)) >>= λ trim.
    func_given (given_value (keyword (codes "coord_func") g.keyed)) >>= λ how. blocks_given (filter (λ kv. not (is_coarsen_option kv)) g.keyed) >>= λ sizes.
    Ok (Blocks sizes trim how)

-- ---- all of them

unfoldable pub grouping_given : Maker → Given → Result Grouping Fault
grouping_given GroupBy g = groupby_given g
grouping_given Resample g = resample_given g
grouping_given Rolling g = rolling_given g
grouping_given Coarsen g = coarsen_given g

-- over axes and coordinates, beside data variables of these names
unfoldable pub grouping_over : Maker → List Axis → List Coord → List (List ℕ) → Given → Result Grouping Fault
grouping_over maker axes coords others g =
    grouping_given maker g >>= λ grouping. grouped_changes grouping axes coords others >>= λ cs. Ok grouping

-- how an array is grouped; one of chars isn't
unfoldable pub array_grouping : Maker → DataArray → Given → Result Grouping Fault
array_grouping maker a g = unless (not (is_chars a.kind)) WrongKind >>= λ u. grouping_over maker a.axes a.coords [] g

-- how a dataset is grouped, without its variables of chars
unfoldable pub set_grouping : Maker → Dataset → Given → Result Grouping Fault
set_grouping maker s g = let t = without_chars s in grouping_over maker t.axes t.coords (variable_names t.vars) g
