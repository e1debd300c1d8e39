-- The variable and the dataset of `demo`, as they stand in a plan.
use Rattle.std.specs.Prelude.{◌≡◌, ℕ, List, [], ◌∷◌}
use Rattle.xr_types.specs.declared.kind.DType.TheVariants.{Int32}
use Rattle.xr_arrays.specs.declared.node.Node.{Node}
use Rattle.xr_chunks.specs.Demo as of
use Rattle.xr_values.specs.declared.dataset.Dataset.{Dataset}
use Rattle.xr_values.specs.declared.variable.Variable.{Variable}
use Rattle.xr_values.specs.Stands.{dataset_in, variable_in, IsDatasetIn, IsNodeOf}

abbrev pub shape : ℕ → List ℕ
shape n = n ∷ 2 ∷ 3 ∷ []

pub record IsDemoVariable (nodes : List Node) (n : ℕ) (v : Variable) : Type 0 where
  pub is : variable_in nodes v ≡ of.variable n
  pub node : IsNodeOf nodes v.node (shape n) Int32

pub record IsDemo (nodes : List Node) (n : ℕ) (s : Dataset) : Type 0 where
  pub is : dataset_in nodes s ≡ of.demo_set n
  pub inside : IsDatasetIn nodes s
