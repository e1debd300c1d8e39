-- A plan of the two arrays of the tests.
use Rattle.std.specs.Prelude.{◌≡◌, List, [], ◌∷◌}
use Rattle.xr_types.specs.declared.kind.DType.TheVariants.{Int16}
use Rattle.xr_arrays.specs.Arrays.{Array}
use Rattle.xr_arrays.specs.declared.node.Node.{Node}
use Rattle.xr_arrays.specs.declared.node.Node.TheVariants.{Source}

pub record AreSources (nodes : List Node) : Type 0 where
  pub left : Array
  pub right : Array
  pub are : nodes ≡ Source left ∷ Source right ∷ []
  pub left_kind : left.kind ≡ Int16
  pub left_shape : left.shape ≡ 2 ∷ 3 ∷ []
  pub right_kind : right.kind ≡ Int16
  pub right_shape : right.shape ≡ 2 ∷ 1 ∷ []
