-- What values stand for, by their outermost layer, by their last item, and while the plan grows.
use Rattle.xr_values.proofs.Common.{All, All-cons, All-head, All-nil, All-tail, All-weaker, Grows, List, Node, Tree, Trees, Value, [], ap, keyed_tree, map, map-append, out-Value, refl, subst, sym, tree, tree_layer, trees, ◌++◌, ◌↔◌, ◌∙◌, ◌∷◌, ◌≡◌}
use Rattle.xr_types.specs.declared.text.TextBytes.{TextBytes}
use Rattle.xr_defs.specs.Meanings as of
use Rattle.xr_defs.specs.Meanings.{Values, NoValue, With, Entries, NoEntry, Entry}
use Rattle.xr_values.specs.declared.value.Value.TheOpen as held
use Rattle.xr_values.specs.declared.value.Value.TheOpen.{Value-F}
use Rattle.xr_values.specs.declared.args.Args.{Args}
use Rattle.xr_values.specs.Trees as tree
use Rattle.xr_values.specs.Meaning.{meaning, means, means_items, means_entries, layer, values, entries, all_values, all_entries, with_key, given, IsTreeIn, AreTreesIn, AreEntriesIn, IsValueIn, IsEntryIn, IsLayerIn, AreArgsIn}
use Rattle.xr_values.proofs.Trees.{tree_out}
use Rattle.xr_values.proofs.Grown.{map_kept, array_kept, stays_array, dataset_kept, stays_dataset}

-- ---- by the outermost layer

means_trees : (nodes : List Node) (ts : Trees) (vs : List Value) → means_items nodes (trees ts (map tree vs)) ≡ values (means_items nodes ts) (map (meaning nodes) vs)
unfolding means
means_trees nodes ts [] = refl
means_trees nodes ts (v ∷ vs) = means_trees nodes (tree.With ts (tree v)) vs

means_keyed : (nodes : List Node) (es : tree.Entries) (kvs : List (TextBytes × Value)) → means_entries nodes (tree.entries es (map keyed_tree kvs)) ≡ entries (means_entries nodes es) (map (with_key nodes) kvs)
unfolding means
means_keyed nodes es [] = refl
means_keyed nodes es (kv ∷ kvs) = means_keyed nodes (tree.Entry es kv.0 (tree kv.1)) kvs

means_layer : (nodes : List Node) (x : Value-F Value) → means nodes (tree_layer x) ≡ layer nodes x
unfolding means all_values all_entries
means_layer nodes (held.List vs) = ap of.Sequence (means_trees nodes tree.NoTree vs.items)
means_layer nodes (held.Table es) = ap of.Table (means_keyed nodes tree.NoEntry es.items)
means_layer nodes x = refl

pub meaning_out : (nodes : List Node) (v : Value) → meaning nodes v ≡ layer nodes (out-Value v)
meaning_out nodes v = ap (means nodes) (tree_out v) ∙ means_layer nodes (out-Value v)

-- ---- lists by their last item

values_more : (vs : Values) (rest : List of.Value) (v : of.Value) → values vs (rest ++ (v ∷ [])) ≡ With (values vs rest) v
values_more vs [] v = refl
values_more vs (w ∷ rest) v = values_more (With vs w) rest v

entries_more : (es : Entries) (rest : List (TextBytes × of.Value)) (key : TextBytes) (v : of.Value) → entries es (rest ++ ((key, v) ∷ [])) ≡ Entry (entries es rest) key v
entries_more es [] key v = refl
entries_more es ((other, w) ∷ rest) key v = entries_more (Entry es other w) rest key v

pub all_more : (nodes : List Node) (vs : List Value) (v : Value) → all_values nodes (vs ++ (v ∷ [])) ≡ With (all_values nodes vs) (meaning nodes v)
unfolding all_values
all_more nodes vs v = rw map-append (values_more NoValue (map (meaning nodes) vs) (meaning nodes v))

pub all_entered : (nodes : List Node) (es : List (TextBytes × Value)) (key : TextBytes) (v : Value) → all_entries nodes (es ++ ((key, v) ∷ [])) ≡ Entry (all_entries nodes es) key (meaning nodes v)
unfolding all_entries
all_entered nodes es key v = rw map-append (entries_more NoEntry (map (with_key nodes) es) key (meaning nodes v))

pub no_values : (nodes : List Node) → all_values nodes [] ≡ NoValue
unfolding all_values
no_values nodes = refl

pub no_entries : (nodes : List Node) → all_entries nodes [] ≡ NoEntry
unfolding all_entries
no_entries nodes = refl

-- ---- values of a plan, by the outermost layer

trees_iff : (nodes : List Node) (ts : Trees) (vs : List Value) → (AreTreesIn nodes ts × All (IsValueIn nodes) vs) ↔ AreTreesIn nodes (trees ts (map tree vs))
unfolding IsTreeIn
trees_iff nodes ts [] = ((λ both. both.0), (λ all. (all, All-nil (IsValueIn nodes))))
trees_iff nodes ts (v ∷ vs) =
    let rest = trees_iff nodes (tree.With ts (tree v)) vs in (
      (λ both. rest.0 ((both.0, (All-head (IsValueIn nodes) v vs both.1).held), All-tail (IsValueIn nodes) v vs both.1)),
      (λ all. let r = rest.1 all in (r.0.0, All-cons (IsValueIn nodes) v vs (record { held = r.0.1 }) r.1)),
    )

entries_iff : (nodes : List Node) (es : tree.Entries) (kvs : List (TextBytes × Value)) → (AreEntriesIn nodes es × All (IsEntryIn nodes) kvs) ↔ AreEntriesIn nodes (tree.entries es (map keyed_tree kvs))
unfolding IsTreeIn
entries_iff nodes es [] = ((λ both. both.0), (λ all. (all, All-nil (IsEntryIn nodes))))
entries_iff nodes es (kv ∷ kvs) =
    let rest = entries_iff nodes (tree.Entry es kv.0 (tree kv.1)) kvs in (
      (λ both. rest.0 ((both.0, (All-head (IsEntryIn nodes) kv kvs both.1).held), All-tail (IsEntryIn nodes) kv kvs both.1)),
      (λ all. let r = rest.1 all in (r.0.0, All-cons (IsEntryIn nodes) kv kvs (record { held = r.0.1 }) r.1)),
    )

layer_iff : (nodes : List Node) (x : Value-F Value) → IsLayerIn nodes x ↔ IsTreeIn nodes (tree_layer x)
unfolding IsTreeIn
layer_iff nodes (held.List vs) = let both = trees_iff nodes tree.NoTree vs.items in ((λ is. both.0 (tt, is)), (λ is. (both.1 is).1))
layer_iff nodes (held.Table es) = let both = entries_iff nodes tree.NoEntry es.items in ((λ is. both.0 (tt, is)), (λ is. (both.1 is).1))
layer_iff nodes x = ((λ is. is), (λ is. is))

-- what a value of the plan holds is of the plan
pub value_out : (nodes : List Node) (v : Value) → IsValueIn nodes v → IsLayerIn nodes (out-Value v)
value_out nodes v is = (layer_iff nodes (out-Value v)).1 (subst (IsTreeIn nodes) (tree_out v) is.held)

-- and what holds such things is a value of the plan
pub value_in : (nodes : List Node) (v : Value) → IsLayerIn nodes (out-Value v) → IsValueIn nodes v
value_in nodes v is = record { held = subst (IsTreeIn nodes) (sym (tree_out v)) ((layer_iff nodes (out-Value v)).0 is) }

pub copied_inside : (nodes : List Node) (v copy : Value) → tree copy ≡ tree v → IsValueIn nodes v → IsValueIn nodes copy
copied_inside nodes v copy same is = record { held = subst (IsTreeIn nodes) (sym same) is.held }

-- ---- while the plan grows

mutual
  unfolding means IsTreeIn

  tree_kept : (old new : List Node) → Grows old new → (t : Tree) → IsTreeIn old t → (means new t ≡ means old t) × IsTreeIn new t
  tree_kept old new g (tree.Sequence ts) is = let kept = items_kept old new g ts is in (ap of.Sequence kept.0, kept.1)
  tree_kept old new g (tree.Table es) is = let kept = entries_kept old new g es is in (ap of.Table kept.0, kept.1)
  tree_kept old new g (tree.Array a) is = (ap of.Array (array_kept old new a g is), stays_array old new a g is)
  tree_kept old new g (tree.Set s) is = (ap of.Set (dataset_kept old new s g is), stays_dataset old new s g is)
  tree_kept old new g (tree.GroupedArray a by) is = (ap (λ b. of.GroupedArray b by) (array_kept old new a g is), stays_array old new a g is)
  tree_kept old new g (tree.GroupedSet s by) is = (ap (λ t. of.GroupedSet t by) (dataset_kept old new s g is), stays_dataset old new s g is)
  tree_kept old new g t is = (refl, is)

  items_kept : (old new : List Node) → Grows old new → (ts : Trees) → AreTreesIn old ts → (means_items new ts ≡ means_items old ts) × AreTreesIn new ts
  items_kept old new g tree.NoTree is = (refl, tt)
  items_kept old new g (tree.With ts t) is =
      let rest = items_kept old new g ts is.0 in
      let last = tree_kept old new g t is.1 in
      (ap (λ vs. With vs (means new t)) rest.0 ∙ ap (With (means_items old ts)) last.0, (rest.1, last.1))

  entries_kept : (old new : List Node) → Grows old new → (es : tree.Entries) → AreEntriesIn old es → (means_entries new es ≡ means_entries old es) × AreEntriesIn new es
  entries_kept old new g tree.NoEntry is = (refl, tt)
  entries_kept old new g (tree.Entry es key t) is =
      let rest = entries_kept old new g es is.0 in
      let last = tree_kept old new g t is.1 in
      (ap (λ vs. Entry vs key (means new t)) rest.0 ∙ ap (Entry (means_entries old es) key) last.0, (rest.1, last.1))

pub meaning_kept : (old new : List Node) (v : Value) → Grows old new → IsValueIn old v → meaning new v ≡ meaning old v
meaning_kept old new v g is = (tree_kept old new g (tree v) is.held).0

pub stays_value : (old new : List Node) (v : Value) → Grows old new → IsValueIn old v → IsValueIn new v
stays_value old new v g is = record { held = (tree_kept old new g (tree v) is.held).1 }

-- ---- lists of values, and arguments

pub meanings_kept : (old new : List Node) (vs : List Value) → Grows old new → All (IsValueIn old) vs → map (meaning new) vs ≡ map (meaning old) vs
meanings_kept old new vs g all = map_kept (IsValueIn old) (meaning new) (meaning old) (λ v. meaning_kept old new v g) vs all

pub keyed_kept : (old new : List Node) (kvs : List (TextBytes × Value)) → Grows old new → All (IsEntryIn old) kvs → map (with_key new) kvs ≡ map (with_key old) kvs
keyed_kept old new kvs g all = map_kept (IsEntryIn old) (with_key new) (with_key old) (λ kv is. ap (λ m. (kv.0, m)) (meaning_kept old new kv.1 g is)) kvs all

pub given_kept : (old new : List Node) (args : Args) → Grows old new → AreArgsIn old args → given new args ≡ given old args
unfolding given
given_kept old new args g are =
    λ i. record { plain = meanings_kept old new args.plain.items g are.plain i; keyed = keyed_kept old new args.keyed.items g are.keyed i }

pub stay_values : (old new : List Node) (vs : List Value) → Grows old new → All (IsValueIn old) vs → All (IsValueIn new) vs
stay_values old new vs g all = All-weaker (IsValueIn old) (IsValueIn new) (λ v. stays_value old new v g) vs all

pub stay_args : (old new : List Node) (args : Args) → Grows old new → AreArgsIn old args → AreArgsIn new args
stay_args old new args g are =
    record {
      plain = stay_values old new args.plain.items g are.plain;
      keyed = All-weaker (IsEntryIn old) (IsEntryIn new) (λ kv. stays_value old new kv.1 g) args.keyed.items are.keyed;
    }
