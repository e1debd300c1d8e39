use Rattle.std.proofs.Common.{◌≡◌, drop}
use Rattle.xr_times.specs.Counts.{are_counts}
use Rattle.cf_time.proofs.counts.are_counts.Given as goal

abbrev pub invariant-loop-label : goal.invariant-loop-label
invariant-loop-label l = are_counts l.unit l.reference (drop l.label-index l.labels) ≡ are_counts l.unit l.reference l.labels
