use Rattle.std.proofs.Common.{◌≡◌, drop}
use Rattle.xr_times.specs.Bins.{rises_from}
use Rattle.cf_time.proofs.binning.rises_from.Given as goal

abbrev pub invariant-loop-label : goal.invariant-loop-label
invariant-loop-label l = rises_from l.last (drop l.label-index l.labels) ≡ rises_from l.fn.before l.fn.labels
