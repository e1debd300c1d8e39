-- What stands on both sides of a choice.
use Rattle.std.specs.Prelude.{Bool, true, false, List, [], ◌∷◌, ◌++◌, ⊤}
use Rattle.xr_arrays.specs.declared.node.Node.{Node}
use Rattle.xr_defs.specs.declared.carrying.Carry.{Carry}
use Rattle.xr_defs.specs.declared.carrying.Carry.TheVariants as carries
use Rattle.xr_operations.specs.CellMethods as calls
use Rattle.xr_values.specs.declared.data_array.DataArray.{DataArray}
use Rattle.xr_values.specs.Stands.{array_in, IsArrayIn}
use Rattle.xr_choosing.specs.declared.branches.Branch.{Branch}
use Rattle.xr_choosing.specs.declared.branches.Branch.TheVariants as branches

abbrev pub branch_in : List Node → Branch → calls.Branch
branch_in nodes (branches.Array a) = calls.FromArray (array_in nodes a.now)
branch_in nodes (branches.Number n) = calls.FromNumber n
branch_in nodes (branches.Truth b) = calls.FromTruth b
branch_in nodes branches.Missing = calls.FromMissing

abbrev pub IsBranchIn : List Node → Branch → Type 0
IsBranchIn nodes (branches.Array a) = IsArrayIn nodes a.now
IsBranchIn nodes (branches.Number n) = ⊤
IsBranchIn nodes (branches.Truth b) = ⊤
IsBranchIn nodes branches.Missing = ⊤

abbrev pub is_missing : Branch → Bool
is_missing (branches.Array a) = false
is_missing (branches.Number n) = false
is_missing (branches.Truth b) = false
is_missing branches.Missing = true

-- the arrays among operands
abbrev pub arrays_of : Branch → List DataArray
arrays_of (branches.Array a) = a.now ∷ []
arrays_of (branches.Number n) = []
arrays_of (branches.Truth b) = []
arrays_of branches.Missing = []

-- in their order: of the method the receiver comes first, and of the function the condition
abbrev pub operands_of : Bool → DataArray → Branch → Branch → List DataArray
operands_of true c x y = arrays_of x ++ c ∷ arrays_of y
operands_of false c x y = c ∷ arrays_of x ++ arrays_of y

abbrev pub carry_of : Bool → Carry
carry_of true = carries.Where
carry_of false = carries.Binary
