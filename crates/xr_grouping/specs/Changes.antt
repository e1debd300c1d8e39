-- What dimensions that are grouped become.
use Rattle.std.specs.Prelude.{◌≡◌, ◌<◌, ◌⊎◌, ℕ, true, false, List, [], ◌∷◌, length, is_some, All}
use Rattle.xr_types.specs.Names.{among, axis_names}
use Rattle.xr_types.specs.declared.axis.Axis.{Axis}
use Rattle.xr_arrays.specs.Nodes.{ArePositions}
use Rattle.xr_defs.specs.Selecting.{axis_called}
use Rattle.xr_defs.specs.WellFormed.{names_of, IsDimension}
use Rattle.xr_defs.specs.declared.value.Coord.{Coord}
use Rattle.xr_operations.specs.Reductions.{coords_left}
use Rattle.xr_groups.specs.declared.change.Change.{Change}
use Rattle.xr_groups.specs.Groupings.{is_free}

-- the new axis has the dimension's name, a free one, or that of a coordinate that goes with the dimension
abbrev pub IsNewName : List Axis → List Coord → List (List ℕ) → List ℕ → List ℕ → Type 0
IsNewName axes coords others d n =
    (n ≡ d) ⊎ ((is_free n axes coords others ≡ true) ⊎ ((among (names_of coords) n ≡ true) × (among (names_of (coords_left (d ∷ []) coords)) n ≡ false)))

-- a dimension of these axes that is grouped, and the axis that stands in its place
pub record IsChange (axes : List Axis) (coords : List Coord) (others : List (List ℕ)) (c : Change) : Type 0 where
  pub has : among (axis_names axes) c.dimension ≡ true
  pub axis : IsDimension c.axis
  pub sized : c.axis.size ≡ length c.lists
  pub fed : All (ArePositions (axis_called axes c.dimension).size 0) c.lists
  pub named : IsNewName axes coords others c.dimension c.axis.name
  -- one that keeps its name has labels only where it had some
  pub labelled : c.axis.name ≡ c.dimension → is_some c.axis.labels ≡ true → is_some (axis_called axes c.dimension).labels ≡ true

-- a dimension that is grouped keeps its name, and each list has positions
pub record Stays (axes : List Axis) (c : Change) : Type 0 where
  pub axis : IsDimension c.axis
  pub name : c.axis.name ≡ c.dimension
  pub sized : c.axis.size ≡ length c.lists
  pub fed : All (ArePositions (axis_called axes c.dimension).size 0) c.lists
  pub full : All (λ ps. 0 < length ps) c.lists
