use Rattle.std.proofs.Common.{◌≡◌, ◌++◌, ◌-◌, map, drop}
use Rattle.xr_times.specs.Bins.{IsRun, IsBin, bin_number}
use Rattle.cf_time.proofs.binning.places.Given as goal

abbrev pub invariant-loop-label : goal.invariant-loop-label
invariant-loop-label l = record {
  places : l.places.items ++ map (λ t. bin_number l.calendar l.freq l.midnight t - l.low) (drop l.label-index l.labels) ≡ map (λ t. bin_number l.calendar l.freq l.midnight t - l.low) l.labels;
  run : IsRun l.calendar l.freq l.midnight l.run.number l.run.from l.run.to;
  bin : IsBin l.calendar l.freq l.midnight l.run.number;
}
