-- Values that are no arrays and no datasets, as datasets.
use Rattle.std.proofs.Common.{◌≡◌, ◌∙◌, List, refl, sym, ap}
use Rattle.std.specs.declared.alloc.Global.{Global}
use Rattle.std.specs.declared.rc.Rc.{Rc}
use Rattle.xr_arrays.specs.declared.node.Node.{Node}
use Rattle.xr_combination.specs.Pieces.{as_dataset, no_set}
use Rattle.xr_values.specs.Meaning.{layer, meaning}
use Rattle.xr_values.specs.declared.data_array.DataArray.{DataArray}
use Rattle.xr_values.specs.declared.dataset.Dataset.{Dataset}
use Rattle.xr_values.specs.declared.value.Value.{Value}
use Rattle.xr_values.specs.declared.value.Value.TheVariants as variants
use Rattle.xr_values.specs.declared.value.Value.TheOpen as held
use Rattle.xr_values.specs.declared.value.Value.TheOpen.{Value-F}
use Rattle.xr_values.specs.declared.value.Value.TheViews.{out-Value, roll-Value, roll-out-Value}
use Rattle.xr_values.proofs.Meaning.{meaning_out}

module _ (nodes : List Node) where
  other_layer : (x : Value-F Value) → ((a : Rc DataArray Global) → x ≡ held.Array a → ⊥) → ((s : Rc Dataset Global) → x ≡ held.Set s → ⊥) → as_dataset (layer nodes x) ≡ no_set
  other_layer held.Absent not_array not_set = refl
  other_layer held.Missing not_array not_set = refl
  other_layer (held.Truth b) not_array not_set = refl
  other_layer (held.Number n) not_array not_set = refl
  other_layer (held.Text t) not_array not_set = refl
  other_layer (held.List vs) not_array not_set = refl
  other_layer (held.Table es) not_array not_set = refl
  other_layer (held.Slice start stop step) not_array not_set = refl
  other_layer (held.Array a) not_array not_set = absurd (not_array a refl)
  other_layer (held.Set s) not_array not_set = absurd (not_set s refl)
  other_layer (held.Times coding ts) not_array not_set = refl
  other_layer (held.GroupedArray a g) not_array not_set = refl
  other_layer (held.GroupedSet s g) not_array not_set = refl

  other : (v : Value) → ((a : Rc DataArray Global) → v ≡ variants.Array a → ⊥) → ((s : Rc Dataset Global) → v ≡ variants.Set s → ⊥) → as_dataset (layer nodes (out-Value v)) ≡ no_set
  unfolding roll-Value denote.Hole.Carrier.roll
  other v not_array not_set = other_layer (out-Value v) (λ a e. not_array a (sym (roll-out-Value v) ∙ ap (λ y. roll-Value y) e)) (λ s e. not_set s (sym (roll-out-Value v) ∙ ap (λ y. roll-Value y) e))

  pub other_is : (v : Value) → ((a : Rc DataArray Global) → v ≡ variants.Array a → ⊥) → ((s : Rc Dataset Global) → v ≡ variants.Set s → ⊥) → no_set ≡ as_dataset (meaning nodes v)
  other_is v not_array not_set = sym (ap as_dataset (meaning_out nodes v) ∙ other v not_array not_set)
