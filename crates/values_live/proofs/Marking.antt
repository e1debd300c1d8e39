-- Values whose nodes are live: by the outermost layer, by their variants, and while marks are added.
use Rattle.std.proofs.Common.{◌≡◌, ◌<◌, ◌+◌, ℕ, ℤ, Bool, Option, List, [], ◌∷◌, length, map, take, get_or, All, sym, ap, subst, ◌∙◌, arith}
use Rattle.std.specs.Prelude.{Vec}
use Rattle.std.specs.declared.rc.Rc.{Rc}
use Rattle.std.specs.declared.alloc.Global.{Global}
use Rattle.std.proofs.lemmas.List.Elements.{All-head, All-tail}
use Rattle.xr_types.specs.declared.text.TextBytes.{TextBytes}
use Rattle.xr_types.specs.declared.axis.TimeCoding.{TimeCoding}
use Rattle.xr_arrays.specs.declared.node.Node.{Node}
use Rattle.xr_defs.specs.declared.grouping.Grouping.{Grouping}
use Rattle.xr_defs.specs.declared.slice.Part.{Part}
use Rattle.plan_core.proofs.Concats.{all_more}
use Rattle.plan_live.specs.Live.{IsLive}
use Rattle.xr_values.specs.declared.data_array.DataArray.{DataArray}
use Rattle.xr_values.specs.declared.variable.Variable.{Variable}
use Rattle.xr_values.specs.declared.dataset.Dataset.{Dataset}
use Rattle.xr_values.specs.declared.value.Value.{Value}
use Rattle.xr_values.specs.declared.value.Value.TheVariants as variants
use Rattle.xr_values.specs.declared.value.Value.TheOpen as held
use Rattle.xr_values.specs.declared.value.Value.TheOpen.{Value-F}
use Rattle.xr_values.specs.declared.value.Value.TheViews.{out-Value, roll-Value, out-roll-Value}
use Rattle.xr_values.specs.Trees as tree
use Rattle.xr_values.specs.Trees.{Tree, Trees, tree, trees, keyed_tree, tree_layer}
use Rattle.xr_values.specs.Meaning.{IsValueIn, IsEntryIn, IsLayerIn}
use Rattle.xr_values.specs.Stands.{IsArrayIn, IsDatasetIn}
use Rattle.xr_values.proofs.Trees.{tree_out}
use Rattle.xr_values.proofs.Meaning.{value_out}
use Rattle.values_live.specs.Marked.{IsVariableLive, IsTreeLive, AreTreesLive, AreEntriesLive, IsValueLive, IsEntryLive, IsLayerLive}

-- ---- by the outermost layer

trees_from : (live : List Bool) (ts : Trees) (vs : List Value) → AreTreesLive live ts → All (IsValueLive live) vs → AreTreesLive live (trees ts (map tree vs))
unfolding IsTreeLive
trees_from live ts [] before all = before
trees_from live ts (v ∷ vs) before all = trees_from live (tree.With ts (tree v)) vs (before, (All-head (IsValueLive live) v vs all).held) (All-tail (IsValueLive live) v vs all)

entries_from : (live : List Bool) (es : tree.Entries) (kvs : List (TextBytes × Value)) → AreEntriesLive live es → All (IsEntryLive live) kvs → AreEntriesLive live (tree.entries es (map keyed_tree kvs))
unfolding IsTreeLive
entries_from live es [] before all = before
entries_from live es (kv ∷ kvs) before all = entries_from live (tree.Entry es kv.0 (tree kv.1)) kvs (before, (All-head (IsEntryLive live) kv kvs all).held) (All-tail (IsEntryLive live) kv kvs all)

layer_from : (live : List Bool) (x : Value-F Value) → IsLayerLive live x → IsTreeLive live (tree_layer x)
unfolding IsTreeLive
layer_from live held.Absent is = tt
layer_from live held.Missing is = tt
layer_from live (held.Truth b) is = tt
layer_from live (held.Number n) is = tt
layer_from live (held.Text t) is = tt
layer_from live (held.List vs) is = trees_from live tree.NoTree vs.items tt is
layer_from live (held.Table es) is = entries_from live tree.NoEntry es.items tt is
layer_from live (held.Slice start stop step) is = tt
layer_from live (held.Array a) is = is
layer_from live (held.Set s) is = is
layer_from live (held.Times coding ts) is = tt
layer_from live (held.GroupedArray a g) is = is
layer_from live (held.GroupedSet s g) is = is

-- a value of a plan whose outermost layer, as it is of the plan, has live nodes
pub layer_live : (live : List Bool) (nodes : List Node) (v : Value) (x : Value-F Value) → v ≡ roll-Value x → IsValueIn nodes v → (IsLayerIn nodes x → IsLayerLive live x) → IsValueLive live v
layer_live live nodes v x is inside lives =
    let out : out-Value v ≡ x = ap (λ w. out-Value w) is ∙ out-roll-Value x in
    record { held = subst (IsTreeLive live) (sym (tree_out v)) (layer_from live (out-Value v) (subst (IsLayerLive live) (sym out) (lives (subst (IsLayerIn nodes) out (value_out nodes v inside))))) }

-- ---- while marks are added

mutual
  unfolding IsTreeLive

  tree_stays : (old new : List Bool) → ((k : ℕ) → IsLive old k → IsLive new k) → (t : Tree) → IsTreeLive old t → IsTreeLive new t
  tree_stays old new stay tree.Absent is = tt
  tree_stays old new stay tree.Missing is = tt
  tree_stays old new stay (tree.Truth b) is = tt
  tree_stays old new stay (tree.Number n) is = tt
  tree_stays old new stay (tree.Text t) is = tt
  tree_stays old new stay (tree.Sequence ts) is = items_stay old new stay ts is
  tree_stays old new stay (tree.Table es) is = entries_stay old new stay es is
  tree_stays old new stay (tree.Slice start stop step) is = tt
  tree_stays old new stay (tree.Array a) is = stay a.node is
  tree_stays old new stay (tree.Set s) is = λ k d lt. stay (get_or s.vars k d).node (is k d lt)
  tree_stays old new stay (tree.Times coding ts) is = tt
  tree_stays old new stay (tree.GroupedArray a g) is = stay a.node is
  tree_stays old new stay (tree.GroupedSet s g) is = λ k d lt. stay (get_or s.vars k d).node (is k d lt)

  items_stay : (old new : List Bool) → ((k : ℕ) → IsLive old k → IsLive new k) → (ts : Trees) → AreTreesLive old ts → AreTreesLive new ts
  items_stay old new stay tree.NoTree is = tt
  items_stay old new stay (tree.With ts t) is = (items_stay old new stay ts is.0, tree_stays old new stay t is.1)

  entries_stay : (old new : List Bool) → ((k : ℕ) → IsLive old k → IsLive new k) → (es : tree.Entries) → AreEntriesLive old es → AreEntriesLive new es
  entries_stay old new stay tree.NoEntry is = tt
  entries_stay old new stay (tree.Entry es key t) is = (entries_stay old new stay es is.0, tree_stays old new stay t is.1)

pub stays_live : (old new : List Bool) (v : Value) → ((k : ℕ) → IsLive old k → IsLive new k) → IsValueLive old v → IsValueLive new v
stays_live old new v stay is = record { held = tree_stays old new stay (tree v) is.held }

-- ---- one more of a list

more : {B : Type 0} (P : List Bool → B → Type 0) → ((old new : List Bool) (x : B) → ((k : ℕ) → IsLive old k → IsLive new k) → P old x → P new x) → (old new : List Bool) (xs : List B) (i : ℕ) (x : B) → i < length xs → x ≡ get_or xs i x
    → ((k : ℕ) → IsLive old k → IsLive new k) → P new x → All (P old) (take i xs) → All (P new) (take (i + 1) xs)
more P stays old new xs i x lt is stay here so_far = all_more (P new) xs i x lt is here (λ k d below. stays old new (get_or (take i xs) k d) stay (so_far k d below))

pub variables_more : (old new : List Bool) (vs : List Variable) (i : ℕ) (v : Variable) → i < length vs → v ≡ get_or vs i v → ((k : ℕ) → IsLive old k → IsLive new k) → IsVariableLive new v
    → All (IsVariableLive old) (take i vs) → All (IsVariableLive new) (take (i + 1) vs)
variables_more = more IsVariableLive (λ old new v stay is. stay v.node is)

pub values_more : (old new : List Bool) (vs : List Value) (i : ℕ) (v : Value) → i < length vs → v ≡ get_or vs i v → ((k : ℕ) → IsLive old k → IsLive new k) → IsValueLive new v
    → All (IsValueLive old) (take i vs) → All (IsValueLive new) (take (i + 1) vs)
values_more = more IsValueLive (λ old new v stay is. stays_live old new v stay is)

pub entries_more : (old new : List Bool) (kvs : List (TextBytes × Value)) (i : ℕ) (kv : TextBytes × Value) → i < length kvs → kv ≡ get_or kvs i kv → ((k : ℕ) → IsLive old k → IsLive new k) → IsEntryLive new kv
    → All (IsEntryLive old) (take i kvs) → All (IsEntryLive new) (take (i + 1) kvs)
entries_more = more IsEntryLive (λ old new kv stay is. stays_live old new kv.1 stay is)

-- ---- by the variants

module _ (live : List Bool) (nodes : List Node) (v : Value) (inside : IsValueIn nodes v) where
  pub absent_live : v ≡ variants.Absent → IsValueLive live v
  unfolding roll-Value denote.Hole.Carrier.roll
  absent_live is = layer_live live nodes v held.Absent is inside (λ x. tt)

  pub missing_live : v ≡ variants.Missing → IsValueLive live v
  unfolding roll-Value denote.Hole.Carrier.roll
  missing_live is = layer_live live nodes v held.Missing is inside (λ x. tt)

  pub truth_live : (b : Bool) → v ≡ variants.Truth b → IsValueLive live v
  unfolding roll-Value denote.Hole.Carrier.roll
  truth_live b is = layer_live live nodes v (held.Truth b) is inside (λ x. tt)

  pub number_live : (n : ℤ) → v ≡ variants.Number n → IsValueLive live v
  unfolding roll-Value denote.Hole.Carrier.roll
  number_live n is = layer_live live nodes v (held.Number n) is inside (λ x. tt)

  pub text_live : (t : TextBytes) → v ≡ variants.Text t → IsValueLive live v
  unfolding roll-Value denote.Hole.Carrier.roll
  text_live t is = layer_live live nodes v (held.Text t) is inside (λ x. tt)

  pub slice_live : (start stop : Part) (step : Option ℤ) → v ≡ variants.Slice start stop step → IsValueLive live v
  unfolding roll-Value denote.Hole.Carrier.roll
  slice_live start stop step is = layer_live live nodes v (held.Slice start stop step) is inside (λ x. tt)

  pub times_live : (coding : TimeCoding) (ts : List ℤ) → v ≡ variants.Times coding ts → IsValueLive live v
  unfolding roll-Value denote.Hole.Carrier.roll
  times_live coding ts is = layer_live live nodes v (held.Times coding ts) is inside (λ x. tt)

  pub list_live : (vs : Vec Value Global) → v ≡ variants.List vs → (All (IsValueIn nodes) vs.items → All (IsValueLive live) vs.items) → IsValueLive live v
  unfolding roll-Value denote.Hole.Carrier.roll
  list_live vs is lives = layer_live live nodes v (held.List vs) is inside lives

  pub table_live : (es : Vec (TextBytes × Value) Global) → v ≡ variants.Table es → (All (IsEntryIn nodes) es.items → All (IsEntryLive live) es.items) → IsValueLive live v
  unfolding roll-Value denote.Hole.Carrier.roll
  table_live es is lives = layer_live live nodes v (held.Table es) is inside lives

  module _ (count : ℕ) (long : length nodes ≡ count) where
    pub array_live : (a : Rc DataArray Global) (b : DataArray) → b ≡ a.value → (b.node < count → IsLive live b.node) → v ≡ variants.Array a → IsValueLive live v
    unfolding roll-Value denote.Hole.Carrier.roll
    array_live a b same lives is = layer_live live nodes v (held.Array a) is inside (one_live a.value (subst (λ (x : DataArray). x.node < count → IsLive live x.node) same lives))
      where
        one_live : (x : DataArray) → (x.node < count → IsLive live x.node) → IsArrayIn nodes x → IsLive live x.node
        one_live x h are = h (let p = are.node.placed in omega (arith, p, long))

    pub grouped_array_live : (a : Rc DataArray Global) (g : Grouping) (b : DataArray) → b ≡ a.value → (b.node < count → IsLive live b.node) → v ≡ variants.GroupedArray a g → IsValueLive live v
    unfolding roll-Value denote.Hole.Carrier.roll
    grouped_array_live a g b same lives is = layer_live live nodes v (held.GroupedArray a g) is inside (one_live a.value (subst (λ (x : DataArray). x.node < count → IsLive live x.node) same lives))
      where
        one_live : (x : DataArray) → (x.node < count → IsLive live x.node) → IsArrayIn nodes x → IsLive live x.node
        one_live x h are = h (let p = are.node.placed in omega (arith, p, long))

    below : (s : Dataset) → IsDatasetIn nodes s → All (λ (w : Variable). w.node < count) s.vars
    below s are k d lt = let p = (are.nodes_of k d lt).placed in omega (arith, p, long)

    pub set_live : (s : Rc Dataset Global) (vs : List Variable) → vs ≡ s.value.vars → (All (λ (w : Variable). w.node < count) vs → All (IsVariableLive live) vs) → v ≡ variants.Set s → IsValueLive live v
    unfolding roll-Value denote.Hole.Carrier.roll
    set_live s vs same lives is = layer_live live nodes v (held.Set s) is inside (λ are. subst (λ ws. All (λ (w : Variable). w.node < count) ws → All (IsVariableLive live) ws) same lives (below s.value are))

    pub grouped_set_live : (s : Rc Dataset Global) (g : Grouping) (vs : List Variable) → vs ≡ s.value.vars → (All (λ (w : Variable). w.node < count) vs → All (IsVariableLive live) vs) → v ≡ variants.GroupedSet s g → IsValueLive live v
    unfolding roll-Value denote.Hole.Carrier.roll
    grouped_set_live s g vs same lives is = layer_live live nodes v (held.GroupedSet s g) is inside (λ are. subst (λ ws. All (λ (w : Variable). w.node < count) ws → All (IsVariableLive live) ws) same lives (below s.value are))
