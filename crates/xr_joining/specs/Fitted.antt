-- An array over joined axes, made one axis after another.
use Rattle.std.specs.Prelude.{◌≡◌, ◌≤◌, ◌+◌, ℕ, true, false, Bool, List, [], ◌∷◌, ◌++◌, length, Option, Some, None, is_none, nat_lt, All, ⊤}
use Rattle.std.specs.List.{list_any, AllByRecursion}
use Rattle.xr_types.specs.Names.{among, axis_names}
use Rattle.xr_types.specs.declared.axis.Axis.{Axis}
use Rattle.xr_arrays.specs.Arrays.{Array}
use Rattle.xr_arrays.specs.Nodes.{taken_from, IsBelow}
use Rattle.xr_defs.specs.Selecting.{axis_called}
use Rattle.xr_defs.specs.WellFormed.{AreDimensions, IsDimension}
use Rattle.xr_operations.specs.Alignment.{joined_in, sources}
use Rattle.align_join.specs.Joined.{stays}
use Rattle.xr_formulas.specs.declared.chain.Step.{Step}
use Rattle.xr_formulas.specs.declared.chain.Step.TheVariants.{Take}

-- positions of each axis from this one on
abbrev pub taken_each : ℕ → List (List (Option ℕ)) → Array → Array
taken_each k [] a = a
taken_each k (s ∷ ss) a = taken_each (k + 1) ss (taken_from a k s None)

-- positions of axes of these sizes
abbrev pub AreBelow : List ℕ → List (List (Option ℕ)) → Type 0
AreBelow [] [] = ⊤
AreBelow (n ∷ ns) (s ∷ ss) = All (IsBelow n) s × AreBelow ns ss
AreBelow ns ss = ⊥

-- an axis that comes to a joined one: each position there has one of its own, and they are no more than these
pub record Comes (x j : Axis) : Type 0 where
  pub name : j.name ≡ x.name
  pub long : length (sources x j) ≡ j.size
  pub below : All (IsBelow x.size) (sources x j)
  pub whole : list_any is_none (sources x j) ≡ false
  pub fewer : j.size ≤ x.size
  pub kept : stays x.labels j.labels ≡ true → x.size ≡ j.size

-- two axes of one name that come to a joined one
pub record Meet (x y j : Axis) : Type 0 where
  pub first : Comes x j
  pub second : Comes y j
  pub formed : IsDimension j

-- an axis whose name stands for a joined one among these
abbrev pub Arrives : List Axis → Axis → Type 0
Arrives axes x = (among (axis_names axes) x.name ≡ true) × Comes x (axis_called axes x.name)

-- the joined axes of two values
pub record AreJoined (one other axes : List Axis) : Type 0 where
  pub dims : AreDimensions axes
  pub first : AllByRecursion (Arrives axes) one
  pub second : AllByRecursion (Arrives axes) other

-- ---- as steps

-- no step where the positions stay
abbrev pub take_unless : Bool → ℕ → List (Option ℕ) → List Step
take_unless true k from = []
take_unless false k from = Take k from None false ∷ []

-- these axes from number k on come to the joined ones
abbrev pub takes : List Axis → ℕ → List Axis → List Step
takes joined k [] = []
takes joined k (x ∷ xs) =
    let j = joined_in joined x in take_unless (stays x.labels j.labels) k (sources x j) ++ takes joined (k + 1) xs

abbrev pub is_below : ℕ → Option ℕ → Bool
is_below n None = true
is_below n (Some i) = nat_lt i n
