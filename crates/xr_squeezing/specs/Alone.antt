-- Dimensions of one position.
use Rattle.std.specs.Prelude.{◌≡◌, ℕ, true, List}
use Rattle.std.specs.List.{AllByRecursion}
use Rattle.xr_types.specs.Names.{among, are_distinct, axis_names}
use Rattle.xr_types.specs.declared.axis.Axis.{Axis}
use Rattle.xr_defs.specs.Selecting.{axis_called}

-- a dimension of one position
pub record IsAlone (axes : List Axis) (n : List ℕ) : Type 0 where
  pub there : among (axis_names axes) n ≡ true
  pub one : (axis_called axes n).size ≡ 1

pub record AreAlone (axes : List Axis) (gone : List (List ℕ)) : Type 0 where
  pub each : AllByRecursion (IsAlone axes) gone
  pub distinct : are_distinct gone ≡ true
