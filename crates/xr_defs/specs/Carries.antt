-- What a result carries, as it has to be.
use Rattle.std.specs.Prelude.{◌≡◌, ◌++◌, ℕ, List, true, MatchOption, ⊤}
use Rattle.std.specs.List.{AllByRecursion}
use Rattle.xr_types.specs.declared.axis.Axis.{Axis}
use Rattle.xr_types.specs.Names.{among}
use Rattle.xr_files.specs.Classic.{is_name}
use Rattle.xr_types.specs.Names.{are_distinct}
use Rattle.xr_defs.specs.Selecting.{axis_called}
use Rattle.xr_types.specs.Names.{axis_names}
use Rattle.xr_defs.specs.Values.{DataArray}
use Rattle.xr_defs.specs.declared.carrying.Parts.{Parts}
use Rattle.xr_defs.specs.WellFormed.{AreAttributes, IsCoordinate, IsDataArray, names_of}

-- an axis of an operand that the result has too is the same there
pub record Shares (own axes : List Axis) : Type 0 where
  pub same : (name : List ℕ) → among (axis_names own) name ≡ true → among (axis_names axes) name ≡ true → axis_called axes name ≡ axis_called own name

-- an array from which a result over these axes comes
abbrev pub IsOperand : List Axis → DataArray → Type 0
IsOperand axes a = IsDataArray a × Shares a.axes axes

-- the name, attributes and coordinates of an array over these axes
pub record AreParts (axes : List Axis) (p : Parts) : Type 0 where
  pub name : MatchOption p.name ⊤ (λ n. is_name n ≡ true)
  pub attrs : AreAttributes p.attrs
  pub coords : AllByRecursion (IsCoordinate axes) p.coords
  pub distinct : are_distinct (axis_names axes ++ names_of p.coords) ≡ true
