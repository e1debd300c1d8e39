-- The sum of an array (NumPy, `sum`; xarray, `DataArray.sum`).
use Rattle.std.specs.Prelude.{not, Result, Ok}
use Rattle.xr_types.specs.Results.{◌>>=◌, unless}
use Rattle.xr_types.specs.declared.fault.Fault.{Fault}
use Rattle.xr_types.specs.declared.fault.Fault.TheVariants.{WrongKind}
use Rattle.xr_defs.specs.Arguments.{nothing_given}
use Rattle.xr_defs.specs.Building.{is_chars}
use Rattle.xr_defs.specs.Meanings.{Value, Array, Given}
use Rattle.xr_defs.specs.Values.{DataArray, total}

-- chars have no sum
unfoldable pub sum_called : Given → DataArray → Result Value Fault
sum_called g a = unless (not (is_chars a.kind)) WrongKind >>= λ u. nothing_given g >>= λ v. Ok (Array (total a))
