use Rattle.std.proofs.Common.{◌≡◌, drop, fold, map}
use Rattle.xr_types.specs.Names.{axis_names}
use Rattle.xr_operations.specs.Alignment.{add_name}
use Rattle.align_join.proofs.values.add_names.Given as goal

abbrev pub invariant-loop-axis : goal.invariant-loop-axis
invariant-loop-axis l = fold add_name (map (λ n. n.now) l.names.items) (axis_names (drop l.axis-index l.axes)) ≡ fold add_name (map (λ n. n.now) l.initial.names.items) (axis_names l.axes)
