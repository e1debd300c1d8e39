-- Coordinates that are assigned to a value.
use Rattle.std.proofs.Common.{◌≡◌, ℕ, Bool, true, false, List, Result, Ok, Err, refl, ap, sym, subst, ◌∙◌}
use Rattle.std.specs.Prelude.{IfOk, if◌then◌else◌, codes}
use Rattle.std.specs.Str.{bytes_eq}
use Rattle.std.specs.declared.alloc.Global.{Global}
use Rattle.std.specs.declared.rc.Rc.{Rc}
use Rattle.xr_types.specs.declared.fault.Fault.{Fault}
use Rattle.xr_types.specs.declared.fault.Fault.TheVariants.{WrongKind}
use Rattle.xr_types.specs.declared.fault.CallFault.{CallFault}
use Rattle.xr_types.specs.declared.fault.CallFault.TheVariants.{Refused, Declined, NoMemory}
use Rattle.xr_arrays.specs.declared.node.Node.{Node}
use Rattle.xr_types.specs.Results.{◌>>=◌}
use Rattle.xr_defs.specs.Meanings as of
use Rattle.xr_defs.specs.Values as values
use Rattle.xr_values.specs.declared.data_array.DataArray.{DataArray}
use Rattle.xr_values.specs.declared.dataset.Dataset.{Dataset}
use Rattle.xr_values.specs.declared.value.Value.{Value}
use Rattle.xr_values.specs.declared.value.Value.TheVariants as variants
use Rattle.xr_values.specs.declared.value.Value.TheOpen as held
use Rattle.xr_values.specs.declared.value.Value.TheOpen.{Value-F}
use Rattle.xr_values.specs.declared.value.Value.TheViews.{out-Value, roll-Value, out-roll-Value, roll-out-Value}
use Rattle.xr_values.specs.declared.args.Args.{Args}
use Rattle.xr_values.specs.Meaning.{meaning, layer, given, IsValueIn}
use Rattle.xr_values.proofs.Meaning.{meaning_out}
use Rattle.xr_defs.specs.Building.{assigned_to_array, assigned_to_set}
use Rattle.xr_runs.specs.Calls.{method_called, of_both, uncomputed_method}
use Rattle.plan_core.specs.Plans.{Grows}
use Rattle.plan_core.proofs.Plans.{grows_by_none}
use Rattle.xr_building.specs.Entries.{array_assigned, set_assigned, refused, FollowsArray, FollowsSet}
use Rattle.dataset_core.specs.Answers.{AnswersValue}
use Rattle.dataset_core.specs.Assigned.{array_followed, coords_of_layer, coords_told, method_told, FollowsValue}

module _ (declines : ℕ → Bool) (nodes : List Node) (args : Args) (v : Value) where
  by_layer : (x : Value-F Value) → v ≡ roll-Value x → coords_told declines nodes v args ≡ coords_of_layer declines nodes args x
  unfolding coords_told
  by_layer x is = ap (coords_of_layer declines nodes args) (ap (λ w. out-Value w) is ∙ out-roll-Value x)

  coords_of_array : (a : Rc DataArray Global) → v ≡ variants.Array a → coords_told declines nodes v args ≡ (array_assigned declines nodes a.value args >>= λ b. Ok (of.Array b))
  unfolding roll-Value denote.Hole.Carrier.roll
  coords_of_array a is = by_layer (held.Array a) is

  module _ (a : Rc DataArray Global) (x : DataArray) (is : v ≡ variants.Array a) (same : x ≡ a.value) where
    on_array : coords_told declines nodes v args ≡ (array_assigned declines nodes x args >>= λ b. Ok (of.Array b))
    on_array = coords_of_array a is ∙ ap (λ (y : DataArray). array_assigned declines nodes y args >>= λ b. Ok (of.Array b)) (sym same)

    pub coords_given : (b : values.DataArray) (r : of.Value) → array_assigned declines nodes x args ≡ Ok b → r ≡ of.Array b → coords_told declines nodes v args ≡ Ok r
    coords_given b r told means = on_array ∙ ap (λ o. o >>= λ b. Ok (of.Array b)) told ∙ ap Ok (sym means)

    pub coords_fail : (e : CallFault) → array_assigned declines nodes x args ≡ Err e → coords_told declines nodes v args ≡ Err e
    coords_fail e told = on_array ∙ ap (λ o. o >>= λ b. Ok (of.Array b)) told

    pub follow_fault : (e : CallFault) (r : Result Value CallFault) → r ≡ Err e → FollowsArray nodes (Err e) (array_assigned declines nodes x args) → FollowsValue nodes r (coords_told declines nodes v args)
    follow_fault e r here told = subst (λ s. FollowsValue nodes s (coords_told declines nodes v args)) (sym here) (by e told)
      where
        by : (e : CallFault) → FollowsArray nodes (Err e) (array_assigned declines nodes x args) → FollowsValue nodes (Err e) (coords_told declines nodes v args)
        by (Refused f) is = coords_fail (Refused f) is
        by (Declined n) is = coords_fail (Declined n) is
        by NoMemory is = tt

  coords_of_set : (s : Rc Dataset Global) → v ≡ variants.Set s → coords_told declines nodes v args ≡ (set_assigned declines nodes s.value args >>= λ t. Ok (of.Set t))
  unfolding roll-Value denote.Hole.Carrier.roll
  coords_of_set s is = by_layer (held.Set s) is

  module _ (s : Rc Dataset Global) (x : Dataset) (is : v ≡ variants.Set s) (same : x ≡ s.value) where
    on_set : coords_told declines nodes v args ≡ (set_assigned declines nodes x args >>= λ t. Ok (of.Set t))
    on_set = coords_of_set s is ∙ ap (λ (y : Dataset). set_assigned declines nodes y args >>= λ t. Ok (of.Set t)) (sym same)

    pub set_coords_given : (t : values.Dataset) (r : of.Value) → set_assigned declines nodes x args ≡ Ok t → r ≡ of.Set t → coords_told declines nodes v args ≡ Ok r
    set_coords_given t r told means = on_set ∙ ap (λ o. o >>= λ t. Ok (of.Set t)) told ∙ ap Ok (sym means)

    set_coords_fail : (e : CallFault) → set_assigned declines nodes x args ≡ Err e → coords_told declines nodes v args ≡ Err e
    set_coords_fail e told = on_set ∙ ap (λ o. o >>= λ t. Ok (of.Set t)) told

    pub set_follow_fault : (e : CallFault) (r : Result Value CallFault) → r ≡ Err e → FollowsSet nodes (Err e) (set_assigned declines nodes x args) → FollowsValue nodes r (coords_told declines nodes v args)
    set_follow_fault e r here told = subst (λ q. FollowsValue nodes q (coords_told declines nodes v args)) (sym here) (by e told)
      where
        by : (e : CallFault) → FollowsSet nodes (Err e) (set_assigned declines nodes x args) → FollowsValue nodes (Err e) (coords_told declines nodes v args)
        by (Refused f) is = set_coords_fail (Refused f) is
        by (Declined n) is = set_coords_fail (Declined n) is
        by NoMemory is = tt

  other_layer : (x : Value-F Value) → ((a : Rc DataArray Global) → x ≡ held.Array a → ⊥) → ((s : Rc Dataset Global) → x ≡ held.Set s → ⊥) → coords_of_layer declines nodes args x ≡ Err (Refused WrongKind)
  other_layer held.Absent not_array not_set = refl
  other_layer held.Missing not_array not_set = refl
  other_layer (held.Truth b) not_array not_set = refl
  other_layer (held.Number n) not_array not_set = refl
  other_layer (held.Text t) not_array not_set = refl
  other_layer (held.List vs) not_array not_set = refl
  other_layer (held.Table es) not_array not_set = refl
  other_layer (held.Slice start stop step) not_array not_set = refl
  other_layer (held.Array a) not_array not_set = absurd (not_array a refl)
  other_layer (held.Set s) not_array not_set = absurd (not_set s refl)
  other_layer (held.Times coding times) not_array not_set = refl
  other_layer (held.GroupedArray a by) not_array not_set = refl
  other_layer (held.GroupedSet s by) not_array not_set = refl

  pub coords_of_others : ((a : Rc DataArray Global) → v ≡ variants.Array a → ⊥) → ((s : Rc Dataset Global) → v ≡ variants.Set s → ⊥) → coords_told declines nodes v args ≡ Err (Refused WrongKind)
  unfolding coords_told roll-Value denote.Hole.Carrier.roll
  coords_of_others not_array not_set = other_layer (out-Value v) (λ a e. not_array a (sym (roll-out-Value v) ∙ ap (λ y. roll-Value y) e)) (λ s e. not_set s (sym (roll-out-Value v) ∙ ap (λ y. roll-Value y) e))

-- a call that computes nothing
pub follows_value : (nodes : List Node) (r : Result Value CallFault) (means : Result of.Value Fault) → AnswersValue nodes r means → FollowsValue nodes r (refused means)
follows_value nodes (Ok v) means is = (ap refused is.0, is.1)
follows_value nodes (Err (Refused f)) means is = ap refused is
follows_value nodes (Err (Declined n)) means is = absurd is
follows_value nodes (Err NoMemory) means is = tt

-- an array that isn't there
pub array_fault : (nodes : List Node) (r : Result Value CallFault) (e : CallFault) (told : Result values.DataArray CallFault) → r ≡ Err e → FollowsArray nodes (Err e) told → FollowsValue nodes r (array_followed told)
array_fault nodes r e told here is = subst (λ s. FollowsValue nodes s (array_followed told)) (sym here) (by e is)
  where
    by : (e : CallFault) → FollowsArray nodes (Err e) told → FollowsValue nodes (Err e) (array_followed told)
    by (Refused f) is = ap array_followed is
    by (Declined n) is = ap array_followed is
    by NoMemory is = tt

-- ---- a call of a method

module _ (declines : ℕ → Bool) (nodes new : List Node) (v : Value) (name : List ℕ) (args : Args) (r : Result Value CallFault) where
  pub assigned_told : bytes_eq name (codes "assign_coords") ≡ true → new ≡ nodes → FollowsValue nodes r (coords_told declines nodes v args) → FollowsValue new r (method_told declines nodes v name args)
  unfolding method_told
  assigned_told called same told =
      subst (λ ns. FollowsValue ns r (method_told declines nodes v name args)) (sym same)
      (subst (FollowsValue nodes r) (sym (ap (λ b. if b then coords_told declines nodes v args else refused (uncomputed_method (meaning nodes v) name (given nodes args))) called)) told)

  pub others_told : bytes_eq name (codes "assign_coords") ≡ false → AnswersValue new r (uncomputed_method (meaning nodes v) name (given nodes args)) → FollowsValue new r (method_told declines nodes v name args)
  unfolding method_told
  others_told other answers =
      subst (FollowsValue new r) (sym (ap (λ b. if b then coords_told declines nodes v args else refused (uncomputed_method (meaning nodes v) name (given nodes args))) other))
      (follows_value new r (uncomputed_method (meaning nodes v) name (given nodes args)) answers)

  pub assigned_means : bytes_eq name (codes "assign_coords") ≡ true → new ≡ nodes → AnswersValue nodes r (of_both (λ a. assigned_to_array a (given nodes args)) (λ s. assigned_to_set s (given nodes args)) (meaning nodes v)) → AnswersValue new r (method_called (meaning nodes v) name (given nodes args))
  unfolding method_called
  assigned_means called same told =
      subst (λ ns. AnswersValue ns r (method_called (meaning nodes v) name (given nodes args))) (sym same)
      (subst (AnswersValue nodes r) (sym (ap (λ b. if b then of_both (λ a. assigned_to_array a (given nodes args)) (λ s. assigned_to_set s (given nodes args)) (meaning nodes v) else uncomputed_method (meaning nodes v) name (given nodes args)) called)) told)

  pub others_mean : bytes_eq name (codes "assign_coords") ≡ false → AnswersValue new r (uncomputed_method (meaning nodes v) name (given nodes args)) → AnswersValue new r (method_called (meaning nodes v) name (given nodes args))
  unfolding method_called
  others_mean other told =
      subst (AnswersValue new r) (sym (ap (λ b. if b then of_both (λ a. assigned_to_array a (given nodes args)) (λ s. assigned_to_set s (given nodes args)) (meaning nodes v) else uncomputed_method (meaning nodes v) name (given nodes args)) other)) told

pub inside_told : (nodes new : List Node) (r : Result Value CallFault) (told : Result of.Value CallFault) → new ≡ nodes → FollowsValue nodes r told → IfOk r (IsValueIn new)
inside_told nodes new (Ok v) told same is = subst (λ ns. IsValueIn ns v) (sym same) is.1
inside_told nodes new (Err e) told same is = tt

pub grows_none : (nodes new : List Node) → new ≡ nodes → Grows nodes new
grows_none nodes new same = subst (λ ns. Grows nodes ns) (sym same) (grows_by_none nodes)

-- a receiver that is neither an array nor a dataset
pub other_receiver : (nodes : List Node) (v : Value) (f : values.DataArray → Result values.DataArray Fault) (h : values.Dataset → Result values.Dataset Fault) → ((a : Rc DataArray Global) → v ≡ variants.Array a → ⊥) → ((s : Rc Dataset Global) → v ≡ variants.Set s → ⊥)
    → of_both f h (meaning nodes v) ≡ Err WrongKind
unfolding of_both roll-Value denote.Hole.Carrier.roll
other_receiver nodes v f h not_array not_set = ap (of_both f h) (meaning_out nodes v) ∙ by (out-Value v) (λ a e. not_array a (sym (roll-out-Value v) ∙ ap (λ y. roll-Value y) e)) (λ s e. not_set s (sym (roll-out-Value v) ∙ ap (λ y. roll-Value y) e))
  where
    by : (x : Value-F Value) → ((a : Rc DataArray Global) → x ≡ held.Array a → ⊥) → ((s : Rc Dataset Global) → x ≡ held.Set s → ⊥) → of_both f h (layer nodes x) ≡ Err WrongKind
    by held.Absent other neither = refl
    by held.Missing other neither = refl
    by (held.Truth b) other neither = refl
    by (held.Number n) other neither = refl
    by (held.Text t) other neither = refl
    by (held.List vs) other neither = refl
    by (held.Table es) other neither = refl
    by (held.Slice start stop step) other neither = refl
    by (held.Array a) other neither = absurd (other a refl)
    by (held.Set s) other neither = absurd (neither s refl)
    by (held.Times coding times) other neither = refl
    by (held.GroupedArray a g) other neither = refl
    by (held.GroupedSet s g) other neither = refl
