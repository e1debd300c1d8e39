-- Joined axes: as they have to be, but for their sizes.
use Rattle.std.specs.Prelude.{◌≡◌, true, List, MatchOption, ⊤}
use Rattle.xr_aligning.specs.Common.{AllByRecursion, Axis, IsIndex, are_distinct, axis_names, is_name}

pub record IsLoose (x : Axis) : Type 0 where
  pub name : is_name x.name ≡ true
  pub index : MatchOption x.labels ⊤ (IsIndex x.size)

pub record AreLoose (axes : List Axis) : Type 0 where
  pub each : AllByRecursion IsLoose axes
  pub distinct : are_distinct (axis_names axes) ≡ true
