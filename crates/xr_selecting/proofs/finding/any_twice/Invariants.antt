use Rattle.std.proofs.Common.{◌≡◌, drop, true}
use Rattle.std.specs.List.{list_all, list_any}
use Rattle.xr_arrays.specs.Labels.{is_kin}
use Rattle.xr_operations.specs.Selection.{stands_twice}
use Rattle.xr_selecting.proofs.finding.any_twice.Given as goal

abbrev pub invariant-loop-label : goal.invariant-loop-label
invariant-loop-label l = record {
  so_far : list_any (stands_twice l.index) (drop l.label-index l.labels) ≡ list_any (stands_twice l.index) l.labels;
  kin : list_all (is_kin l.index) (drop l.label-index l.labels) ≡ true;
}
