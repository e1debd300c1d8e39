-- The width of bins by digits and a unit.
use Rattle.std.specs.Prelude.{◌*◌, ◌&&◌, nat_le, ℕ, List, length, Result, Ok}
use Rattle.xr_types.specs.Results.{◌>>=◌, unless}
use Rattle.xr_types.specs.declared.fault.Fault.{Fault}
use Rattle.xr_types.specs.declared.fault.Fault.TheVariants.{BadArgument}
use Rattle.xr_times.specs.declared.time.Freq.{Freq}
use Rattle.xr_times.specs.declared.time.Freq.TheVariants.{Seconds}
use Rattle.xr_groups.specs.Calls.{count_of, is_plain}

abbrev pub width_of : List ℕ → ℕ → Result Freq Fault
width_of ds unit = unless (is_plain ds && nat_le (length ds) 7 && nat_le (count_of ds) 1000000) BadArgument >>= λ u. Ok (Seconds (count_of ds * unit))
