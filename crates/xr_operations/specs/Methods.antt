-- The methods of arrays that work cell by cell, by their names.
use Rattle.std.specs.Prelude.{ℕ, Bool, List, [], ◌∷◌, Result, Err, if◌then◌else◌, codes}
use Rattle.std.specs.Str.{bytes_eq}
use Rattle.xr_types.specs.Names.{among}
use Rattle.xr_types.specs.declared.fault.Fault.{Fault}
use Rattle.xr_types.specs.declared.fault.Fault.TheVariants.{UnknownName}
use Rattle.xr_types.specs.declared.operation.OpKind.TheVariants as ops
use Rattle.xr_defs.specs.Meanings.{Given}
use Rattle.xr_defs.specs.Values.{DataArray}
use Rattle.xr_operations.specs.CellMethods.{cast_called, fill_called, tested}

abbrev pub cell_methods : List (List ℕ)
cell_methods = codes "isnull" ∷ codes "notnull" ∷ codes "astype" ∷ codes "fillna" ∷ []

abbrev pub is_cell_method : List ℕ → Bool
is_cell_method name = among cell_methods name

unfoldable pub array_method : List ℕ → DataArray → Given → Result DataArray Fault
array_method name a g =
    if bytes_eq name (codes "isnull") then tested ops.IsNull a g
    else (if bytes_eq name (codes "notnull") then tested ops.NotNull a g
    else (if bytes_eq name (codes "astype") then cast_called a g
    else (if bytes_eq name (codes "fillna") then fill_called a g else Err (UnknownName name))))
