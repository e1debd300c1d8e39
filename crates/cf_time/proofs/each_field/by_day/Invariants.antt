use Rattle.std.proofs.Common.{◌≡◌, ◌++◌, pos, map, drop}
use Rattle.xr_times.specs.Times.{field_of}
use Rattle.cf_time.specs.Fields.{day_field}
use Rattle.cf_time.proofs.each_field.by_day.Given as goal

abbrev pub invariant-loop-label : goal.invariant-loop-label
invariant-loop-label l = record {
  values : l.values.items ++ map (λ t. pos (field_of l.calendar t l.field)) (drop l.label-index l.labels) ≡ map (λ t. pos (field_of l.calendar t l.field)) l.labels;
  last : l.last.value ≡ pos (day_field l.calendar l.last.day l.field);
}
