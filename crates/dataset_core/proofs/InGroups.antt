-- Calls on arrays and datasets whose positions are in groups.
use Rattle.std.proofs.Common.{◌≡◌, List, [], ◌∷◌, ◌++◌, Result, Ok, Err, refl, ap, sym, ◌∙◌}
use Rattle.std.specs.declared.alloc.Global.{Global}
use Rattle.std.specs.declared.rc.Rc.{Rc}
use Rattle.xr_types.specs.declared.fault.Fault.{Fault}
use Rattle.xr_types.specs.declared.fault.CallFault.{CallFault}
use Rattle.xr_types.specs.declared.fault.CallFault.TheVariants.{Refused, Declined, NoMemory}
use Rattle.xr_types.specs.declared.operation.FoldKind.{FoldKind}
use Rattle.xr_types.specs.Results.{◌>>=◌, Answers}
use Rattle.xr_arrays.specs.declared.node.Node.{Node}
use Rattle.xr_arrays.specs.Added.{AddsAtMost}
use Rattle.xr_defs.specs.declared.grouping.Grouping.{Grouping}
use Rattle.xr_defs.specs.Meanings as of
use Rattle.xr_defs.specs.Meanings.{Given}
use Rattle.xr_defs.specs.Room.{of_array, of_set, portions, room, Portion}
use Rattle.xr_groups.specs.declared.maker.Maker.{Maker}
use Rattle.xr_groups.specs.Calls.{array_grouping, set_grouping}
use Rattle.xr_groups.specs.Methods.{grouped_array, grouped_set}
use Rattle.xr_runs.specs.Calls.{array_grouped, fold_called, set_grouped}
use Rattle.xr_arguments.proofs.Variants.{is_grouped_array, is_grouped_set}
use Rattle.xr_values.specs.Answers.{Fails}
use Rattle.xr_values.specs.declared.data_array.DataArray.{DataArray}
use Rattle.xr_values.specs.declared.dataset.Dataset.{Dataset}
use Rattle.xr_values.specs.declared.value.Value.{Value}
use Rattle.xr_values.specs.declared.value.Value.TheVariants as variants
use Rattle.xr_values.specs.Meaning.{meaning}
use Rattle.xr_values.specs.Stands.{array_in, dataset_in}
use Rattle.dataset_core.proofs.Rooms.{in_one}
use Rattle.dataset_core.proofs.Shared.{fails_first}

fails_so : {A B : Type 0} (e : CallFault) (told : Result A Fault) (k : A → Result B Fault) → Fails e told → Fails e (told >>= k)
fails_so (Refused f) told k h = ap (λ o. o >>= k) h
fails_so (Declined n) told k h = absurd h
fails_so NoMemory told k h = tt

fails_of : {B : Type 0} (e : CallFault) (r s : Result B Fault) → r ≡ s → Fails e s → Fails e r
fails_of (Refused f) r s same h = same ∙ h
fails_of (Declined n) r s same h = absurd h
fails_of NoMemory r s same h = tt

module _ (k : FoldKind) (nodes : List Node) (v : Value) (args : Given) where
  module _ (a : Rc DataArray Global) (g : Grouping) (x : DataArray) (is : v ≡ variants.GroupedArray a g) (same : x ≡ a.value) where
    so_far : fold_called k (meaning nodes v) args ≡ fold_called k (of.GroupedArray (array_in nodes x) g) args
    so_far = ap (λ m. fold_called k m args) (is_grouped_array nodes v a g is) ∙ ap (λ (y : DataArray). fold_called k (of.GroupedArray (array_in nodes y) g) args) (sym same)

    grouped_so : fold_called k (meaning nodes v) args ≡ (grouped_array k g (array_in nodes x) args >>= λ b. Ok (of.Array b))
    unfolding fold_called
    grouped_so = so_far

    pub array_fails : (e : CallFault) → Fails e (grouped_array k g (array_in nodes x) args) → Fails e (fold_called k (meaning nodes v) args)
    array_fails e h = fails_of e _ _ grouped_so (fails_so e (grouped_array k g (array_in nodes x) args) (λ b. Ok (of.Array b)) h)

    pub array_folded : (new : List Node) (b : DataArray) (r : Value) → grouped_array k g (array_in nodes x) args ≡ Ok (array_in new b) → meaning new r ≡ of.Array (array_in new b)
        → fold_called k (meaning nodes v) args ≡ Ok (meaning new r)
    array_folded new b r told means = grouped_so ∙ ap (λ o. o >>= λ z. Ok (of.Array z)) told ∙ ap Ok (sym means)

  module _ (s : Rc Dataset Global) (g : Grouping) (x : Dataset) (is : v ≡ variants.GroupedSet s g) (same : x ≡ s.value) where
    set_so_far : fold_called k (meaning nodes v) args ≡ fold_called k (of.GroupedSet (dataset_in nodes x) g) args
    set_so_far = ap (λ m. fold_called k m args) (is_grouped_set nodes v s g is) ∙ ap (λ (y : Dataset). fold_called k (of.GroupedSet (dataset_in nodes y) g) args) (sym same)

    set_grouped_so : fold_called k (meaning nodes v) args ≡ (grouped_set k g (dataset_in nodes x) args >>= λ t. Ok (of.Set t))
    unfolding fold_called
    set_grouped_so = set_so_far

    pub set_fails : (e : CallFault) → Fails e (grouped_set k g (dataset_in nodes x) args) → Fails e (fold_called k (meaning nodes v) args)
    set_fails e h = fails_of e _ _ set_grouped_so (fails_so e (grouped_set k g (dataset_in nodes x) args) (λ t. Ok (of.Set t)) h)

    pub set_folded : (new : List Node) (t : Dataset) (r : Value) → grouped_set k g (dataset_in nodes x) args ≡ Ok (dataset_in new t) → meaning new r ≡ of.Set (dataset_in new t)
        → fold_called k (meaning nodes v) args ≡ Ok (meaning new r)
    set_folded new t r told means = set_grouped_so ∙ ap (λ o. o >>= λ z. Ok (of.Set z)) told ∙ ap Ok (sym means)

-- ---- room

module _ (nodes new : List Node) (v r : Value) (q : Portion) (answer : portions (meaning new r) ≡ q ∷ []) where
  pub room_on_groups : (a : Rc DataArray Global) (g : Grouping) (x : DataArray) → v ≡ variants.GroupedArray a g → x ≡ a.value → AddsAtMost nodes new (room (of_array (array_in nodes x) ∷ q ∷ [])) → AddsAtMost nodes new (room (portions (meaning nodes v) ++ portions (meaning new r)))
  room_on_groups a g x is same = in_one nodes new (meaning nodes v) (meaning new r) (of_array (array_in nodes x)) q (ap portions (is_grouped_array nodes v a g is) ∙ ap (λ (y : DataArray). of_array (array_in nodes y) ∷ []) (sym same)) answer

  pub room_on_set_groups : (s : Rc Dataset Global) (g : Grouping) (x : Dataset) → v ≡ variants.GroupedSet s g → x ≡ s.value → AddsAtMost nodes new (room (of_set (dataset_in nodes x) ∷ q ∷ [])) → AddsAtMost nodes new (room (portions (meaning nodes v) ++ portions (meaning new r)))
  room_on_set_groups s g x is same = in_one nodes new (meaning nodes v) (meaning new r) (of_set (dataset_in nodes x)) q (ap portions (is_grouped_set nodes v s g is) ∙ ap (λ (y : Dataset). of_set (dataset_in nodes y) ∷ []) (sym same)) answer

-- ---- positions in groups

module _ (nodes : List Node) (m : Maker) (args : Given) where
  module _ (a : Rc DataArray Global) (x : DataArray) (same : x ≡ a.value) where
    array_here : array_grouped m (array_in nodes a.value) args ≡ (array_grouping m (array_in nodes x) args >>= λ by. Ok (of.GroupedArray (array_in nodes a.value) by))
    unfolding array_grouped
    array_here = ap (λ (y : DataArray). array_grouping m (array_in nodes y) args >>= λ by. Ok (of.GroupedArray (array_in nodes a.value) by)) (sym same)

    pub array_refused : (e : CallFault) → Answers (λ (g : Grouping). g) (Err e) (array_grouping m (array_in nodes x) args) → Fails e (array_grouped m (array_in nodes a.value) args)
    array_refused e h = fails_first (λ (g : Grouping). g) e (array_grouping m (array_in nodes x) args) (λ by. Ok (of.GroupedArray (array_in nodes a.value) by)) _ array_here h

    pub array_grouped_by : (by : Grouping) → array_grouping m (array_in nodes x) args ≡ Ok by → array_grouped m (array_in nodes a.value) args ≡ Ok (of.GroupedArray (array_in nodes a.value) by)
    array_grouped_by by told = array_here ∙ ap (λ o. o >>= λ by. Ok (of.GroupedArray (array_in nodes a.value) by)) told

  module _ (s : Rc Dataset Global) (x : Dataset) (same : x ≡ s.value) where
    set_here : set_grouped m (dataset_in nodes s.value) args ≡ (set_grouping m (dataset_in nodes x) args >>= λ by. Ok (of.GroupedSet (dataset_in nodes s.value) by))
    unfolding set_grouped
    set_here = ap (λ (y : Dataset). set_grouping m (dataset_in nodes y) args >>= λ by. Ok (of.GroupedSet (dataset_in nodes s.value) by)) (sym same)

    pub set_refused : (e : CallFault) → Answers (λ (g : Grouping). g) (Err e) (set_grouping m (dataset_in nodes x) args) → Fails e (set_grouped m (dataset_in nodes s.value) args)
    set_refused e h = fails_first (λ (g : Grouping). g) e (set_grouping m (dataset_in nodes x) args) (λ by. Ok (of.GroupedSet (dataset_in nodes s.value) by)) _ set_here h

    pub set_grouped_by : (by : Grouping) → set_grouping m (dataset_in nodes x) args ≡ Ok by → set_grouped m (dataset_in nodes s.value) args ≡ Ok (of.GroupedSet (dataset_in nodes s.value) by)
    set_grouped_by by told = set_here ∙ ap (λ o. o >>= λ by. Ok (of.GroupedSet (dataset_in nodes s.value) by)) told

-- a value that shares an array
pub shares_array : (nodes : List Node) (a b : Rc DataArray Global) (by : Grouping) → b.value ≡ a.value → meaning nodes (variants.GroupedArray b by) ≡ of.GroupedArray (array_in nodes a.value) by
shares_array nodes a b by same = is_grouped_array nodes (variants.GroupedArray b by) b by refl ∙ ap (λ (y : DataArray). of.GroupedArray (array_in nodes y) by) same

pub shares_set : (nodes : List Node) (a b : Rc Dataset Global) (by : Grouping) → b.value ≡ a.value → meaning nodes (variants.GroupedSet b by) ≡ of.GroupedSet (dataset_in nodes a.value) by
shares_set nodes a b by same = is_grouped_set nodes (variants.GroupedSet b by) b by refl ∙ ap (λ (y : Dataset). of.GroupedSet (dataset_in nodes y) by) same
