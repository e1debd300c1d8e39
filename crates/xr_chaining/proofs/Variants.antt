-- Values as datasets, by their variant.
use Rattle.std.proofs.Common.{◌≡◌, ◌∙◌, true, false, List, [], Result, Ok, Err, refl, sym, ap, subst}
use Rattle.std.specs.Prelude.{IfOk}
use Rattle.std.specs.declared.alloc.Global.{Global}
use Rattle.std.specs.declared.rc.Rc.{Rc}
use Rattle.xr_arrays.specs.declared.node.Node.{Node}
use Rattle.xr_defs.specs.Meanings as of
use Rattle.xr_combination.specs.Concat.{unnamed}
use Rattle.xr_combination.specs.Pieces.{is_set, no_set}
use Rattle.xr_values.specs.Meaning.{layer, meaning, IsValueIn}
use Rattle.xr_values.specs.Stands.{array_in, dataset_in, IsDatasetIn}
use Rattle.xr_values.specs.declared.data_array.DataArray.{DataArray}
use Rattle.xr_values.specs.declared.dataset.Dataset.{Dataset}
use Rattle.xr_values.specs.declared.value.Value.{Value}
use Rattle.xr_values.specs.declared.value.Value.TheVariants as variants
use Rattle.xr_values.specs.declared.value.Value.TheOpen as held
use Rattle.xr_values.specs.declared.value.Value.TheOpen.{Value-F}
use Rattle.xr_values.specs.declared.value.Value.TheViews.{out-Value, roll-Value, roll-out-Value}
use Rattle.xr_values.proofs.Meaning.{meaning_out}
use Rattle.xr_arguments.proofs.Inside.{held_array, held_set}
use Rattle.xr_arguments.proofs.Variants.{is_array, is_set as is_a_set}
use Rattle.xr_parts.specs.Single.{set_of}
use Rattle.xr_chaining.specs.Sets.{IsUnnamedIn}
use Rattle.xr_chaining.proofs.Formed.{array_unnamed, set_unnamed}

-- ---- what they stand for

pub array_means : (nodes : List Node) (v : Value) (a : Rc DataArray Global) (b : DataArray) → v ≡ variants.Array a → b ≡ a.value → meaning nodes v ≡ of.Array (array_in nodes b)
array_means nodes v a b is held = is_array nodes v a is ∙ ap (λ (x : DataArray). of.Array (array_in nodes x)) (sym held)

pub set_means : (nodes : List Node) (v : Value) (s : Rc Dataset Global) (t : Dataset) → v ≡ variants.Set s → t ≡ s.value → meaning nodes v ≡ of.Set (dataset_in nodes t)
set_means nodes v s t is held = is_a_set nodes v s is ∙ ap (λ (x : Dataset). of.Set (dataset_in nodes x)) (sym held)

-- ---- an array

module _ {E : Type 0} (nodes : List Node) (v : Value) (a : Rc DataArray Global) (b : DataArray) (is : v ≡ variants.Array a) (held : b ≡ a.value) where
  pub array_is : (r : Result Dataset E) → IfOk r (λ s. s ≡ set_of [] b) → IfOk r (λ s. dataset_in nodes s ≡ unnamed (meaning nodes v))
  array_is (Ok s) made = ap (dataset_in nodes) made ∙ ap unnamed (sym (array_means nodes v a b is held))
  array_is (Err e) made = tt

  pub array_inside : (r : Result Dataset E) → IfOk r (λ s. s ≡ set_of [] b) → IsValueIn nodes v → IfOk r (IsUnnamedIn nodes)
  array_inside (Ok s) made inside = subst (IsUnnamedIn nodes) (sym made) (array_unnamed nodes b [] (held_array nodes v a b is held inside))
  array_inside (Err e) made inside = tt

  pub array_is_no_set : (r : Result Dataset E) → is_set (meaning nodes v) ≡ true → IfOk r (IsDatasetIn nodes)
  array_is_no_set r set = absurd (no (sym (ap is_set (array_means nodes v a b is held)) ∙ set))
    where
      no : is_set (of.Array (array_in nodes b)) ≡ true → ⊥
      no e = absurd cc

-- ---- a dataset

module _ {E : Type 0} (nodes : List Node) (v : Value) (s : Rc Dataset Global) (t : Dataset) (is : v ≡ variants.Set s) (held : t ≡ s.value) where
  pub set_is : (r : Result Dataset E) → IfOk r (λ u. u ≡ t) → IfOk r (λ u. dataset_in nodes u ≡ unnamed (meaning nodes v))
  set_is (Ok u) made = ap (dataset_in nodes) made ∙ ap unnamed (sym (set_means nodes v s t is held))
  set_is (Err e) made = tt

  pub set_inside : (r : Result Dataset E) → IfOk r (λ u. u ≡ t) → IsValueIn nodes v → IfOk r (IsUnnamedIn nodes)
  set_inside (Ok u) made inside = subst (IsUnnamedIn nodes) (sym made) (set_unnamed nodes t (held_set nodes v s t is held inside))
  set_inside (Err e) made inside = tt

  pub set_stays : (r : Result Dataset E) → IfOk r (λ u. u ≡ t) → IsValueIn nodes v → IfOk r (IsDatasetIn nodes)
  set_stays (Ok u) made inside = subst (IsDatasetIn nodes) (sym made) (held_set nodes v s t is held inside)
  set_stays (Err e) made inside = tt

-- ---- another value

module _ (nodes : List Node) where
  other_layer : (x : Value-F Value) → ((a : Rc DataArray Global) → x ≡ held.Array a → ⊥) → ((s : Rc Dataset Global) → x ≡ held.Set s → ⊥) → (unnamed (layer nodes x) ≡ no_set) × (is_set (layer nodes x) ≡ false)
  other_layer held.Absent not_array not_set = (refl, refl)
  other_layer held.Missing not_array not_set = (refl, refl)
  other_layer (held.Truth b) not_array not_set = (refl, refl)
  other_layer (held.Number n) not_array not_set = (refl, refl)
  other_layer (held.Text t) not_array not_set = (refl, refl)
  other_layer (held.List vs) not_array not_set = (refl, refl)
  other_layer (held.Table es) not_array not_set = (refl, refl)
  other_layer (held.Slice start stop step) not_array not_set = (refl, refl)
  other_layer (held.Array a) not_array not_set = absurd (not_array a refl)
  other_layer (held.Set s) not_array not_set = absurd (not_set s refl)
  other_layer (held.Times coding ts) not_array not_set = (refl, refl)
  other_layer (held.GroupedArray a g) not_array not_set = (refl, refl)
  other_layer (held.GroupedSet s g) not_array not_set = (refl, refl)

  other : (v : Value) → ((a : Rc DataArray Global) → v ≡ variants.Array a → ⊥) → ((s : Rc Dataset Global) → v ≡ variants.Set s → ⊥) → (unnamed (layer nodes (out-Value v)) ≡ no_set) × (is_set (layer nodes (out-Value v)) ≡ false)
  unfolding roll-Value denote.Hole.Carrier.roll
  other v not_array not_set = other_layer (out-Value v) (λ a e. not_array a (sym (roll-out-Value v) ∙ ap (λ y. roll-Value y) e)) (λ s e. not_set s (sym (roll-out-Value v) ∙ ap (λ y. roll-Value y) e))

  pub other_is : (v : Value) → ((a : Rc DataArray Global) → v ≡ variants.Array a → ⊥) → ((s : Rc Dataset Global) → v ≡ variants.Set s → ⊥) → no_set ≡ unnamed (meaning nodes v)
  other_is v not_array not_set = sym (ap unnamed (meaning_out nodes v) ∙ (other v not_array not_set).0)

  pub other_is_no_set : (v : Value) (s : Dataset) → ((a : Rc DataArray Global) → v ≡ variants.Array a → ⊥) → ((s : Rc Dataset Global) → v ≡ variants.Set s → ⊥) → is_set (meaning nodes v) ≡ true → IsDatasetIn nodes s
  other_is_no_set v s not_array not_set set = absurd (no (sym (ap is_set (meaning_out nodes v) ∙ (other v not_array not_set).1) ∙ set))
    where
      no : false ≡ true → ⊥
      no e = absurd cc
