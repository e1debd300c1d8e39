-- Which values are of a plan, by their variant.
use Rattle.xr_arguments.proofs.Common.{All, Bool, DataArray, Dataset, Global, Grouping, IsArrayIn, IsDatasetIn, IsLayerIn, IsValueIn, List, Node, Option, Part, Rc, TextBytes, TimeCoding, Value, Value-F, subst, sym, value_in, value_out, ℤ, ◌≡◌}
use Rattle.xr_times.specs.Times.{IsTime}
use Rattle.xr_arguments.proofs.Variants.{out_variant, variant}
use Rattle.xr_values.specs.declared.value.Value.TheVariants as variants
use Rattle.xr_values.specs.declared.value.Value.TheOpen as held

by_layer : (nodes : List Node) (v : Value) (x : Value-F Value) → v ≡ variant x → IsValueIn nodes v → IsLayerIn nodes x
by_layer nodes v x is inside = subst (IsLayerIn nodes) (out_variant v x is) (value_out nodes v inside)

of_layer : (nodes : List Node) (v : Value) (x : Value-F Value) → v ≡ variant x → IsLayerIn nodes x → IsValueIn nodes v
of_layer nodes v x is inside = value_in nodes v (subst (IsLayerIn nodes) (sym (out_variant v x is)) inside)

-- ---- values of every plan

pub absent_inside : (nodes : List Node) (v : Value) → v ≡ variants.Absent → IsValueIn nodes v
absent_inside nodes v is = of_layer nodes v held.Absent is tt

pub missing_inside : (nodes : List Node) (v : Value) → v ≡ variants.Missing → IsValueIn nodes v
missing_inside nodes v is = of_layer nodes v held.Missing is tt

pub truth_inside : (nodes : List Node) (v : Value) (b : Bool) → v ≡ variants.Truth b → IsValueIn nodes v
truth_inside nodes v b is = of_layer nodes v (held.Truth b) is tt

pub number_inside : (nodes : List Node) (v : Value) (n : ℤ) → v ≡ variants.Number n → IsValueIn nodes v
number_inside nodes v n is = of_layer nodes v (held.Number n) is tt

pub text_inside : (nodes : List Node) (v : Value) (t : TextBytes) → v ≡ variants.Text t → IsValueIn nodes v
text_inside nodes v t is = of_layer nodes v (held.Text t) is tt

pub slice_inside : (nodes : List Node) (v : Value) (start stop : Part) (step : Option ℤ) → v ≡ variants.Slice start stop step → IsValueIn nodes v
slice_inside nodes v start stop step is = of_layer nodes v (held.Slice start stop step) is tt

pub times_inside : (nodes : List Node) (v : Value) (coding : TimeCoding) (ts : List ℤ) → v ≡ variants.Times coding ts → All (IsTime coding.units.calendar) ts → IsValueIn nodes v
times_inside nodes v coding ts is inside = of_layer nodes v (held.Times coding ts) is inside

-- ---- arrays and datasets of a plan

pub array_inside : (nodes : List Node) (v : Value) (a : Rc DataArray Global) → v ≡ variants.Array a → IsArrayIn nodes a.value → IsValueIn nodes v
array_inside nodes v a is inside = of_layer nodes v (held.Array a) is inside

pub set_inside : (nodes : List Node) (v : Value) (s : Rc Dataset Global) → v ≡ variants.Set s → IsDatasetIn nodes s.value → IsValueIn nodes v
set_inside nodes v s is inside = of_layer nodes v (held.Set s) is inside

pub inside_array : (nodes : List Node) (v : Value) (a : Rc DataArray Global) → v ≡ variants.Array a → IsValueIn nodes v → IsArrayIn nodes a.value
inside_array nodes v a is inside = by_layer nodes v (held.Array a) is inside

pub inside_set : (nodes : List Node) (v : Value) (s : Rc Dataset Global) → v ≡ variants.Set s → IsValueIn nodes v → IsDatasetIn nodes s.value
inside_set nodes v s is inside = by_layer nodes v (held.Set s) is inside

pub grouped_array_inside : (nodes : List Node) (v : Value) (a : Rc DataArray Global) (g : Grouping) → v ≡ variants.GroupedArray a g → IsArrayIn nodes a.value → IsValueIn nodes v
grouped_array_inside nodes v a g is inside = of_layer nodes v (held.GroupedArray a g) is inside

pub grouped_set_inside : (nodes : List Node) (v : Value) (s : Rc Dataset Global) (g : Grouping) → v ≡ variants.GroupedSet s g → IsDatasetIn nodes s.value → IsValueIn nodes v
grouped_set_inside nodes v s g is inside = of_layer nodes v (held.GroupedSet s g) is inside

pub inside_grouped_array : (nodes : List Node) (v : Value) (a : Rc DataArray Global) (g : Grouping) → v ≡ variants.GroupedArray a g → IsValueIn nodes v → IsArrayIn nodes a.value
inside_grouped_array nodes v a g is inside = by_layer nodes v (held.GroupedArray a g) is inside

pub inside_grouped_set : (nodes : List Node) (v : Value) (s : Rc Dataset Global) (g : Grouping) → v ≡ variants.GroupedSet s g → IsValueIn nodes v → IsDatasetIn nodes s.value
inside_grouped_set nodes v s g is inside = by_layer nodes v (held.GroupedSet s g) is inside

-- the same where what is shared is looked at
pub held_array : (nodes : List Node) (v : Value) (a : Rc DataArray Global) (x : DataArray) → v ≡ variants.Array a → x ≡ a.value → IsValueIn nodes v → IsArrayIn nodes x
held_array nodes v a x is same inside = subst (IsArrayIn nodes) (sym same) (inside_array nodes v a is inside)

pub held_set : (nodes : List Node) (v : Value) (s : Rc Dataset Global) (x : Dataset) → v ≡ variants.Set s → x ≡ s.value → IsValueIn nodes v → IsDatasetIn nodes x
held_set nodes v s x is same inside = subst (IsDatasetIn nodes) (sym same) (inside_set nodes v s is inside)
