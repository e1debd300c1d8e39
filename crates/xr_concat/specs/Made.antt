-- Variables that are made of several, before they stand in a plan.
use Rattle.std.specs.Prelude.{◌≡◌, ℕ, List}
use Rattle.xr_types.specs.declared.kind.DType.{DType}
use Rattle.xr_combination.specs.Pieces.{Piece, all_attrs, is_some_masked}
use Rattle.xr_joint.specs.declared.pieces.JointVariable.{JointVariable}
use Rattle.xr_joint.specs.declared.pieces.Origin.TheVariants as origins

-- one of these cells, with what all have in common
abbrev pub joint_with : List ℕ → List (List ℕ) → DType → List Piece → ℕ → JointVariable
joint_with name dims kind ps n = record { name = name; dims = dims; kind = kind; masked = is_some_masked ps; attrs = all_attrs ps; cells = origins.Node n }

abbrev pub IsJoint : List ℕ → List (List ℕ) → DType → List Piece → ℕ → JointVariable → Type 0
IsJoint name dims kind ps n v = v ≡ joint_with name dims kind ps n
