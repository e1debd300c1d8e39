use Rattle.std.proofs.Common.{◌≡◌, drop}
use Rattle.std.specs.List.{filter_map, AllByRecursion}
use Rattle.xr_defs.specs.Encoding.{stored_index}
use Rattle.xr_defs.specs.WellFormed.{IsDimension}
use Rattle.xr_encode.specs.Walk.{vars_from}
use Rattle.xr_encode.proofs.held.push_indexes.Given as goal

abbrev pub invariant-loop-axis : goal.invariant-loop-axis
invariant-loop-axis l = record {
  each : AllByRecursion IsDimension (drop l.axis-index l.axes);
  vars : vars_from l.small l.dims l.options l.vars (filter_map stored_index (drop l.axis-index l.axes)) ≡ vars_from l.small l.dims l.options l.fn.vars (filter_map stored_index l.axes);
}
