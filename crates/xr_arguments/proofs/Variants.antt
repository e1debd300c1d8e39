-- What a value stands for, by its variant.
use Rattle.xr_arguments.proofs.Common.{Bool, DataArray, Dataset, Global, Grouping, List, Node, Option, Part, Rc, TextBytes, TimeCoding, Value, Value-F, Vec, all_entries, all_values, ap, array_in, dataset_in, layer, meaning, meaning_out, out-Value, out-roll-Value, refl, roll-Value, ℤ, ◌∙◌, ◌≡◌}
use Rattle.xr_defs.specs.Meanings as of
use Rattle.xr_values.specs.declared.value.Value.TheVariants as variants
use Rattle.xr_values.specs.declared.value.Value.TheOpen as held

-- the value of a variant, by what it holds
abbrev pub variant : Value-F Value → Value
variant held.Absent = variants.Absent
variant held.Missing = variants.Missing
variant (held.Truth b) = variants.Truth b
variant (held.Number n) = variants.Number n
variant (held.Text t) = variants.Text t
variant (held.List vs) = variants.List vs
variant (held.Table es) = variants.Table es
variant (held.Slice start stop step) = variants.Slice start stop step
variant (held.Array a) = variants.Array a
variant (held.Set s) = variants.Set s
variant (held.Times coding ts) = variants.Times coding ts
variant (held.GroupedArray a g) = variants.GroupedArray a g
variant (held.GroupedSet s g) = variants.GroupedSet s g

rolled : (x : Value-F Value) → variant x ≡ roll-Value x
unfolding roll-Value denote.Hole.Carrier.roll
rolled held.Absent = refl
rolled x = refl

pub out_variant : (v : Value) (x : Value-F Value) → v ≡ variant x → out-Value v ≡ x
out_variant v x is = ap (λ w. out-Value w) (is ∙ rolled x) ∙ out-roll-Value x

by_layer : (nodes : List Node) (v : Value) (x : Value-F Value) → v ≡ variant x → meaning nodes v ≡ layer nodes x
by_layer nodes v x is = meaning_out nodes v ∙ ap (layer nodes) (out_variant v x is)

pub is_absent : (nodes : List Node) (v : Value) → v ≡ variants.Absent → meaning nodes v ≡ of.Absent
is_absent nodes v is = by_layer nodes v held.Absent is

pub is_missing : (nodes : List Node) (v : Value) → v ≡ variants.Missing → meaning nodes v ≡ of.Missing
is_missing nodes v is = by_layer nodes v held.Missing is

pub is_truth : (nodes : List Node) (v : Value) (b : Bool) → v ≡ variants.Truth b → meaning nodes v ≡ of.Truth b
is_truth nodes v b is = by_layer nodes v (held.Truth b) is

pub is_number : (nodes : List Node) (v : Value) (n : ℤ) → v ≡ variants.Number n → meaning nodes v ≡ of.Number n
is_number nodes v n is = by_layer nodes v (held.Number n) is

pub is_text : (nodes : List Node) (v : Value) (t : TextBytes) → v ≡ variants.Text t → meaning nodes v ≡ of.Text t
is_text nodes v t is = by_layer nodes v (held.Text t) is

pub is_list : (nodes : List Node) (v : Value) (vs : Vec Value Global) → v ≡ variants.List vs → meaning nodes v ≡ of.Sequence (all_values nodes vs.items)
is_list nodes v vs is = by_layer nodes v (held.List vs) is

pub is_table : (nodes : List Node) (v : Value) (es : Vec (TextBytes × Value) Global) → v ≡ variants.Table es → meaning nodes v ≡ of.Table (all_entries nodes es.items)
is_table nodes v es is = by_layer nodes v (held.Table es) is

pub is_slice : (nodes : List Node) (v : Value) (start : Part) (stop : Part) (step : Option ℤ) → v ≡ variants.Slice start stop step → meaning nodes v ≡ of.Slice start stop step
is_slice nodes v start stop step is = by_layer nodes v (held.Slice start stop step) is

pub is_array : (nodes : List Node) (v : Value) (a : Rc DataArray Global) → v ≡ variants.Array a → meaning nodes v ≡ of.Array (array_in nodes a.value)
is_array nodes v a is = by_layer nodes v (held.Array a) is

pub is_set : (nodes : List Node) (v : Value) (s : Rc Dataset Global) → v ≡ variants.Set s → meaning nodes v ≡ of.Set (dataset_in nodes s.value)
is_set nodes v s is = by_layer nodes v (held.Set s) is

pub is_times : (nodes : List Node) (v : Value) (coding : TimeCoding) (ts : List ℤ) → v ≡ variants.Times coding ts → meaning nodes v ≡ of.Times coding ts
is_times nodes v coding ts is = by_layer nodes v (held.Times coding ts) is

pub is_grouped_array : (nodes : List Node) (v : Value) (a : Rc DataArray Global) (g : Grouping) → v ≡ variants.GroupedArray a g → meaning nodes v ≡ of.GroupedArray (array_in nodes a.value) g
is_grouped_array nodes v a g is = by_layer nodes v (held.GroupedArray a g) is

pub is_grouped_set : (nodes : List Node) (v : Value) (s : Rc Dataset Global) (g : Grouping) → v ≡ variants.GroupedSet s g → meaning nodes v ≡ of.GroupedSet (dataset_in nodes s.value) g
is_grouped_set nodes v s g is = by_layer nodes v (held.GroupedSet s g) is
