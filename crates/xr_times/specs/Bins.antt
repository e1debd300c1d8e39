-- Bins of times: of a width, counted from the midnight of the first label's day, or the calendar's months or
-- years.
-- xarray and pandas, "resample" (origin `start_day`).
use Rattle.std.specs.Prelude.{◌≡◌, ◌+◌, ◌-◌, ◌*◌, ◌/◌, ◌%◌, ◌==◌, ◌&&◌, ◌<◌, ◌≤◌, ℕ, ℤ, pos, ◌-ℤ◌, nat_lt, int_le, Bool, true, List, [], ◌∷◌, length, map, slice_index_or, Result, Ok, Err, if◌then◌else◌}
use Rattle.std.specs.List.{range_with_len}
use Rattle.xr_types.specs.declared.axis.Calendar.{Calendar}
use Rattle.xr_types.specs.declared.fault.Fault.{Fault}
use Rattle.xr_types.specs.declared.fault.CallFault.{CallFault}
use Rattle.xr_types.specs.declared.fault.CallFault.TheVariants.{Refused, Declined, NoMemory}
use Rattle.xr_types.specs.declared.fault.Fault.TheVariants.{NotMonotonic, TooLarge}
use Rattle.xr_times.specs.Times.{epoch, all_days, seconds_since, day_since, year_at, month_at, time_of}
use Rattle.xr_times.specs.declared.time.Freq.{Freq}
use Rattle.xr_times.specs.declared.time.Freq.TheVariants as freq
use Rattle.xr_times.specs.declared.bin_list.BinList.{BinList}

-- a width is at least a second
abbrev pub IsFreq : Freq → Type 0
IsFreq (freq.Seconds width) = 0 < width
IsFreq freq.Months = Unit {0}
IsFreq freq.Years = Unit {0}

-- the midnight with which the day of a time begins, in seconds from 0001-01-01
abbrev pub midnight : Calendar → ℤ → ℕ
midnight c t = 86400 * day_since c t

-- the number of a time's bin: bin j of a width reaches from the first midnight and j widths to before j + 1
-- widths; months are counted from that of the year 0, years by their number
abbrev pub bin_number : Calendar → Freq → ℕ → ℤ → ℕ
bin_number c (freq.Seconds width) first t = (seconds_since c t - first) / width
bin_number c freq.Months first t = 12 * year_at c (day_since c t) + month_at c (day_since c t) - 1
bin_number c freq.Years first t = year_at c (day_since c t)

-- the first second of a bin
abbrev pub bin_start : Calendar → Freq → ℕ → ℕ → ℤ
bin_start c (freq.Seconds width) first j = pos (first + j * width) -ℤ pos (epoch c)
bin_start c freq.Months first j = time_of c (j / 12) (j % 12 + 1) 1 0 0 0
bin_start c freq.Years first j = time_of c j 1 1 0 0 0

-- each time is at least the one before
abbrev pub rises_from : ℤ → List ℤ → Bool
rises_from before [] = true
rises_from before (t ∷ ts) = int_le before t && rises_from t ts

abbrev pub rises : List ℤ → Bool
rises [] = true
rises (t ∷ ts) = rises_from t ts

abbrev pub first_midnight : Calendar → List ℤ → ℕ
first_midnight c ts = midnight c (slice_index_or ts 0 (pos 0))

-- the bin of the first label, and that of the last
abbrev pub first_bin : Calendar → Freq → List ℤ → ℕ
first_bin c f ts = bin_number c f (first_midnight c ts) (slice_index_or ts 0 (pos 0))

abbrev pub last_bin : Calendar → Freq → List ℤ → ℕ
last_bin c f ts = bin_number c f (first_midnight c ts) (slice_index_or ts (length ts - 1) (pos 0))

-- from the first label's bin to the last label's
abbrev pub bin_count : Calendar → Freq → List ℤ → ℕ
bin_count c f ts = if length ts == 0 then 0 else last_bin c f ts - first_bin c f ts + 1

abbrev pub bin_starts : Calendar → Freq → List ℤ → List ℤ
bin_starts c f ts = map (bin_start c f (first_midnight c ts)) (range_with_len (first_bin c f ts) (bin_count c f ts))

-- the bin of each label, counted from the first label's
abbrev pub label_bins : Calendar → Freq → List ℤ → List ℕ
label_bins c f ts = map (λ t. bin_number c f (first_midnight c ts) t - first_bin c f ts) ts

-- the bins of ascending labels, at most 2^25 of them
abbrev pub bins_of : Calendar → Freq → List ℤ → Result BinList Fault
bins_of c f ts =
    if rises ts
    then (if nat_lt 33554432 (bin_count c f ts) then Err TooLarge else Ok (record { starts = bin_starts c f ts; bin = label_bins c f ts }))
    else Err NotMonotonic

-- ---- what the code keeps

-- labels from one second to before another have one bin
abbrev pub IsRun : Calendar → Freq → ℕ → ℕ → ℕ → ℕ → Type 0
IsRun c f first number from to = (t : ℤ) → from ≤ seconds_since c t → seconds_since c t < to → bin_number c f first t ≡ number

-- a bin whose first second lies in the years 1 to 9999
abbrev pub IsBin : Calendar → Freq → ℕ → ℕ → Type 0
IsBin c (freq.Seconds width) first j = first + j * width < 86400 * all_days c
IsBin c freq.Months first j = (12 ≤ j) × (j < 120000)
IsBin c freq.Years first j = (1 ≤ j) × (j ≤ 9999)

-- few enough for a place of 32 bits: of a width at most 2^25, and a calendar has fewer months and years
abbrev pub IsFew : Freq → ℕ → Type 0
IsFew (freq.Seconds width) n = n < 33554432
IsFew freq.Months n = Unit {0}
IsFew freq.Years n = Unit {0}

-- the bins, or the fault, unless memory ran out
abbrev pub BinsAre : Result BinList CallFault → Result BinList Fault → Type 0
BinsAre (Ok list) told = told ≡ Ok list
BinsAre (Err (Refused fault)) told = told ≡ Err fault
BinsAre (Err (Declined node)) told = ⊥
BinsAre (Err NoMemory) told = Unit {0}
