use Rattle.std.proofs.Common.{◌≡◌, ◌++◌, pos, map, drop}
use Rattle.xr_times.specs.Times.{field_of}
use Rattle.cf_time.proofs.each_field.by_label.Given as goal

abbrev pub invariant-loop-label : goal.invariant-loop-label
invariant-loop-label l = l.values.items ++ map (λ t. pos (field_of l.calendar t l.part)) (drop l.label-index l.labels) ≡ map (λ t. pos (field_of l.calendar t l.part)) l.labels
