-- What functions and methods answer where nodes may be declined: `DataArray` and `assign_coords` compute the arrays that become
-- coordinates, the others compute nothing.
use Rattle.std.specs.Prelude.{◌≡◌, ℕ, Bool, List, Result, Ok, Err, ⊤, if◌then◌else◌, codes}
use Rattle.std.specs.Str.{bytes_eq}
use Rattle.xr_types.specs.declared.fault.Fault.TheVariants.{WrongKind}
use Rattle.xr_types.specs.declared.fault.CallFault.{CallFault}
use Rattle.xr_types.specs.declared.fault.CallFault.TheVariants.{Refused, Declined, NoMemory}
use Rattle.xr_arrays.specs.declared.node.Node.{Node}
use Rattle.xr_types.specs.Results.{◌>>=◌}
use Rattle.xr_defs.specs.Meanings as of
use Rattle.xr_defs.specs.Values as values
use Rattle.xr_runs.specs.Calls.{uncomputed_function, uncomputed_method}
use Rattle.xr_values.specs.declared.value.Value.{Value}
use Rattle.xr_values.specs.declared.value.Value.TheOpen as held
use Rattle.xr_values.specs.declared.value.Value.TheOpen.{Value-F}
use Rattle.xr_values.specs.declared.value.Value.TheViews.{out-Value}
use Rattle.xr_values.specs.declared.args.Args.{Args}
use Rattle.xr_values.specs.Meaning.{meaning, given, IsValueIn}
use Rattle.xr_building.specs.Entries.{array_assigned, set_assigned, refused}
use Rattle.xr_building.specs.Written.{array_written}

-- by the outermost layer of the receiver
abbrev pub coords_of_layer : (ℕ → Bool) → List Node → Args → Value-F Value → Result of.Value CallFault
coords_of_layer declines nodes args (held.Array a) = array_assigned declines nodes a.value args >>= λ b. Ok (of.Array b)
coords_of_layer declines nodes args (held.Set s) = set_assigned declines nodes s.value args >>= λ t. Ok (of.Set t)
coords_of_layer declines nodes args v = Err (Refused WrongKind)

unfoldable pub coords_told : (ℕ → Bool) → List Node → Value → Args → Result of.Value CallFault
coords_told declines nodes v args = coords_of_layer declines nodes args (out-Value v)

-- the value of a method, the first fault, or the first declined node that the call comes to
unfoldable pub method_told : (ℕ → Bool) → List Node → Value → List ℕ → Args → Result of.Value CallFault
method_told declines nodes v name args =
    if bytes_eq name (codes "assign_coords") then coords_told declines nodes v args else refused (uncomputed_method (meaning nodes v) name (given nodes args))

-- an array that is told, as a value
abbrev pub array_followed : Result values.DataArray CallFault → Result of.Value CallFault
array_followed r = r >>= λ a. Ok (of.Array a)

unfoldable pub function_told : (ℕ → Bool) → List Node → List ℕ → Args → Result of.Value CallFault
function_told declines nodes name args =
    if bytes_eq name (codes "DataArray") then array_followed (array_written declines nodes args) else refused (uncomputed_function name (given nodes args))

-- a call answers what is told, unless memory runs out
abbrev pub FollowsValue : List Node → Result Value CallFault → Result of.Value CallFault → Type 0
FollowsValue nodes (Ok v) told = (told ≡ Ok (meaning nodes v)) × IsValueIn nodes v
FollowsValue nodes (Err (Refused f)) told = told ≡ Err (Refused f)
FollowsValue nodes (Err (Declined n)) told = told ≡ Err (Declined n)
FollowsValue nodes (Err NoMemory) told = ⊤
