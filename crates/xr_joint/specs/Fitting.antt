-- Datasets over the joined axes of all, before it is known that they are as datasets have to be.
use Rattle.std.specs.Prelude.{◌≡◌, ◌++◌, ℤ, List, map, Option}
use Rattle.std.specs.List.{AllByRecursion}
use Rattle.xr_types.specs.declared.axis.Axis.{Axis}
use Rattle.xr_arrays.specs.declared.node.Node.{Node}
use Rattle.xr_defs.specs.WellFormed.{IsCoordinate}
use Rattle.xr_relations.specs.Aligning.{fitted_set}
use Rattle.xr_values.specs.declared.dataset.Dataset.{Dataset}
use Rattle.xr_values.specs.Stands.{dataset_in}
use Rattle.xr_parts.specs.Frames.{IsFrame}
use Rattle.xr_aligning.specs.Sets.{IsVarHere}

-- its variables and coordinates are as they have to be, whatever their names
pub record IsOpenIn (nodes : List Node) (s : Dataset) : Type 0 where
  pub vars : AllByRecursion (IsVarHere nodes s.axes) s.vars
  pub coords : AllByRecursion (IsCoordinate s.axes) s.coords

-- its axes and coordinates are as they have to be
abbrev pub HasFrame : Dataset → Type 0
HasFrame s = IsFrame s.axes s.coords

pub record IsFittedSet (old new : List Node) (joined : List Axis) (fill : Option ℤ) (s t : Dataset) : Type 0 where
  pub is : dataset_in new t ≡ fitted_set joined fill (dataset_in old s)
  pub inside : IsOpenIn new t

-- several, behind others
pub record AreFittedSets (old new : List Node) (joined : List Axis) (fill : Option ℤ) (ss out ts : List Dataset) : Type 0 where
  pub more : List Dataset
  pub are : ts ≡ out ++ more
  pub means : map (dataset_in new) more ≡ map (fitted_set joined fill) (map (dataset_in old) ss)
  pub inside : AllByRecursion (IsOpenIn new) more
