use Rattle.std.proofs.Common.{◌≡◌, map}
use Rattle.std.specs.List.{range_with_len}
use Rattle.xr_times.specs.Bins.{bin_start}
use Rattle.cf_time.proofs.binning.starts_from.Given as goal

abbrev pub invariant-loop-at : goal.invariant-loop-at
invariant-loop-at l = l.starts.items ≡ map (bin_start l.calendar l.freq l.midnight) (range_with_len l.low l.at)
