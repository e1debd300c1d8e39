use Rattle.std.proofs.Common.{◌≡◌, drop}
use Rattle.xr_types.specs.Names.{axis_names, among}
use Rattle.xr_types.specs.Results.{all_of, unless}
use Rattle.xr_types.specs.declared.fault.Fault.TheVariants.{NoDimension}
use Rattle.xr_reducing.proofs.dims.check_dims.Given as goal

abbrev pub invariant-loop-name : goal.invariant-loop-name
invariant-loop-name l = all_of (λ d. unless (among (axis_names l.axes) d) (NoDimension d)) (drop l.name-index l.names) ≡ all_of (λ d. unless (among (axis_names l.axes) d) (NoDimension d)) l.names
