-- Arrays and datasets of a plan whose dimensions are given other positions.
use Rattle.std.specs.Prelude.{◌≡◌, ◌*◌, ◌++◌, List, length}
use Rattle.xr_arrays.specs.declared.node.Node.{Node}
use Rattle.xr_arrays.specs.Added.{AddsAtMost}
use Rattle.xr_defs.specs.Room.{span}
use Rattle.xr_defs.specs.Values as of
use Rattle.xr_values.specs.declared.data_array.DataArray.{DataArray}
use Rattle.xr_values.specs.declared.dataset.Dataset.{Dataset}
use Rattle.xr_values.specs.Stands.{array_in, dataset_in, IsArrayIn, IsDatasetIn}

-- this array of the plan, and how many cells are added
pub record IsChanged (old new : List Node) (means own : of.DataArray) (b : DataArray) : Type 0 where
  pub is : array_in new b ≡ means
  pub inside : IsArrayIn new b
  pub space : AddsAtMost old new (16 * span (own.axes ++ b.axes))

pub record IsSetChanged (old new : List Node) (means own : of.Dataset) (t : Dataset) : Type 0 where
  pub is : dataset_in new t ≡ means
  pub inside : IsDatasetIn new t
  pub space : AddsAtMost old new (16 * length own.vars * span (own.axes ++ t.axes))
