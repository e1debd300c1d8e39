-- The times of arrays and datasets of a plan are in the years that have a text.
use Rattle.std.proofs.Common.{List, [], ◌∷◌, Option, Some, None, All}
use Rattle.std.specs.Prelude.{ℕ, MatchOption, ⊤}
use Rattle.std.specs.List.{AllByRecursion}
use Rattle.std.proofs.lemmas.List.Elements.{All-nil, All-cons}
use Rattle.xr_types.specs.declared.axis.Axis.{Axis}
use Rattle.xr_types.specs.declared.axis.Labels.{Labels}
use Rattle.xr_types.specs.declared.axis.LabelList.{LabelList}
use Rattle.xr_types.specs.declared.axis.LabelList.TheVariants.{Numbers, Times, Texts}
use Rattle.xr_arrays.specs.declared.node.Node.{Node}
use Rattle.xr_defs.specs.declared.value.Content.{Content}
use Rattle.xr_defs.specs.declared.value.Content.TheVariants as contents
use Rattle.xr_defs.specs.declared.value.Coord.{Coord}
use Rattle.xr_values.specs.declared.data_array.DataArray.{DataArray}
use Rattle.xr_values.specs.declared.dataset.Dataset.{Dataset}
use Rattle.xr_defs.specs.WellFormed.{AreLabels, IsIndex, IsDimension, IsContent, IsCoordinate}
use Rattle.xr_values.specs.Stands.{IsArrayIn, IsDatasetIn}
use Rattle.xr_print.specs.Conditions.{AreTimes, HasTimes, IsTimeContent, HoldsTime}

list_times : (l : LabelList) → AreLabels l → AreTimes l
list_times (Numbers kind ns) are = tt
list_times (Times coding ts) are = are
list_times (Texts ts) are = tt

labels_times : (n : ℕ) (l : Option Labels) → MatchOption l ⊤ (IsIndex n) → MatchOption l ⊤ (λ (m : Labels). AreTimes m.list)
labels_times n None is = tt
labels_times n (Some l) is = list_times l.list is.range

axes_times : (axes : List Axis) → AllByRecursion IsDimension axes → All HasTimes axes
axes_times [] are = All-nil HasTimes
axes_times (x ∷ xs) are = All-cons HasTimes x xs (labels_times x.size x.labels are.0.index) (axes_times xs are.1)

content_time : (shape : List ℕ) (c : Content) → IsContent shape c → IsTimeContent c
content_time shape (contents.Cells a masked) is = tt
content_time shape (contents.Text text) is = tt
content_time shape (contents.Time coding t) is = is.1

coords_times : (axes : List Axis) (coords : List Coord) → AllByRecursion (IsCoordinate axes) coords → All HoldsTime coords
coords_times axes [] are = All-nil HoldsTime
coords_times axes (c ∷ cs) are = All-cons HoldsTime c cs (content_time _ c.content are.0.content) (coords_times axes cs are.1)

pub array_times : (nodes : List Node) (a : DataArray) → IsArrayIn nodes a → All HasTimes a.axes
array_times nodes a is = axes_times a.axes is.formed.axes.each

pub array_scalars : (nodes : List Node) (a : DataArray) → IsArrayIn nodes a → All HoldsTime a.coords
array_scalars nodes a is = coords_times a.axes a.coords is.formed.coords

pub set_times : (nodes : List Node) (s : Dataset) → IsDatasetIn nodes s → All HasTimes s.axes
set_times nodes s is = axes_times s.axes is.formed.axes.each

pub set_scalars : (nodes : List Node) (s : Dataset) → IsDatasetIn nodes s → All HoldsTime s.coords
set_scalars nodes s is = coords_times s.axes s.coords is.formed.coords
