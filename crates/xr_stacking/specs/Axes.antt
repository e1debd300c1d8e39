-- The axes over which datasets are put together.
use Rattle.std.specs.Prelude.{◌∷◌, ℕ, Bool, List, map, Result, Ok}
use Rattle.xr_types.specs.Results.{◌>>=◌}
use Rattle.xr_types.specs.declared.axis.Axis.{Axis}
use Rattle.xr_types.specs.declared.fault.Fault.{Fault}
use Rattle.xr_types.specs.declared.operation.How.{How}
use Rattle.xr_combination.specs.Concat.{check_dimension, check_variables, joining_axis, other_axes}
use Rattle.xr_defs.specs.Meanings as meant
use Rattle.xr_defs.specs.Values as of
use Rattle.xr_operations.specs.Alignment.{aligned}

-- the axis along the dimension, then the joined others
unfoldable pub axes_of : List ℕ → How → Bool → List meant.Value → List of.Dataset → Result (List Axis) Fault
axes_of dim how filled vs ss =
    check_variables ss >>= λ u. check_dimension dim vs ss >>= λ v. aligned how filled (map (other_axes dim) ss) >>= λ joined. joining_axis dim ss >>= λ x. Ok (x ∷ joined)
