-- The function and the method by the arguments that they hold.
use Rattle.std.specs.Prelude.{List, ◌∷◌, ◌++◌, Option, Some, None, option_map, Result, Err, codes}
use Rattle.xr_types.specs.Results.{◌>>=◌}
use Rattle.xr_types.specs.declared.fault.Fault.{Fault}
use Rattle.xr_types.specs.declared.fault.Fault.TheVariants.{WouldPromote}
use Rattle.xr_arrays.specs.declared.node.Node.{Node}
use Rattle.xr_defs.specs.Building.{given_value, required}
use Rattle.xr_defs.specs.Meanings as of
use Rattle.xr_defs.specs.Values.{DataArray}
use Rattle.xr_defs.specs.declared.carrying.Carry.TheVariants as carries
use Rattle.xr_operations.specs.CellMethods.{arrays_in, as_branch, as_condition, where_over, Branch, FromArray}
use Rattle.xr_values.specs.declared.args.Args.{Args}
use Rattle.xr_values.specs.Meaning.{meaning}
use Rattle.xr_choosing.specs.Held.{held}

abbrev pub function_over : DataArray → Branch → Branch → Result DataArray Fault
function_over cond x y = where_over carries.Binary (cond ∷ arrays_in x ++ arrays_in y) cond x y

unfoldable pub function_told : List Node → Args → Result DataArray Fault
function_told nodes args =
    required (option_map (meaning nodes) (held 0 (codes "cond") args)) >>= λ c. required (option_map (meaning nodes) (held 1 (codes "x") args)) >>= λ v.
    required (option_map (meaning nodes) (held 2 (codes "y") args)) >>= λ w. as_condition c >>= λ cond. as_branch v >>= λ x. as_branch w >>= λ y. function_over cond x y

abbrev pub method_over : DataArray → DataArray → Branch → Result DataArray Fault
method_over a cond y = where_over carries.Where (a ∷ cond ∷ arrays_in y) cond (FromArray a) y

abbrev pub with_other : DataArray → DataArray → Option of.Value → Result DataArray Fault
with_other a cond None = Err WouldPromote
with_other a cond (Some w) = as_branch w >>= λ y. method_over a cond y

unfoldable pub method_told : List Node → DataArray → Args → Result DataArray Fault
method_told nodes a args =
    required (option_map (meaning nodes) (held 0 (codes "cond") args)) >>= λ c. as_condition c >>= λ cond.
    with_other a cond (given_value (option_map (meaning nodes) (held 1 (codes "other") args)))
