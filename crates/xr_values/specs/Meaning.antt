-- What the program's values stand for in a plan, and which values are all of a plan.
use Rattle.std.specs.Prelude.{List, [], ◌∷◌, map, All, ⊤}
use Rattle.xr_types.specs.declared.text.TextBytes.{TextBytes}
use Rattle.xr_defs.specs.Meanings as of
use Rattle.xr_defs.specs.Meanings.{Values, NoValue, With, Entries, NoEntry, Entry, Given}
use Rattle.xr_times.specs.Times.{IsTime}
use Rattle.xr_arrays.specs.declared.node.Node.{Node}
use Rattle.xr_values.specs.declared.value.Value.{Value}
use Rattle.xr_values.specs.declared.value.Value.TheOpen as held
use Rattle.xr_values.specs.declared.value.Value.TheOpen.{Value-F}
use Rattle.xr_values.specs.declared.args.Args.{Args}
use Rattle.xr_values.specs.Trees as tree
use Rattle.xr_values.specs.Trees.{Tree, Trees, tree}
use Rattle.xr_values.specs.Stands.{array_in, dataset_in, IsArrayIn, IsDatasetIn}

-- ---- what values stand for

unfoldable mutual
  pub means : List Node → Tree → of.Value
  means nodes tree.Absent = of.Absent
  means nodes tree.Missing = of.Missing
  means nodes (tree.Truth b) = of.Truth b
  means nodes (tree.Number n) = of.Number n
  means nodes (tree.Text t) = of.Text t
  means nodes (tree.Sequence ts) = of.Sequence (means_items nodes ts)
  means nodes (tree.Table es) = of.Table (means_entries nodes es)
  means nodes (tree.Slice start stop step) = of.Slice start stop step
  means nodes (tree.Array a) = of.Array (array_in nodes a)
  means nodes (tree.Set s) = of.Set (dataset_in nodes s)
  means nodes (tree.Times coding ts) = of.Times coding ts
  means nodes (tree.GroupedArray a g) = of.GroupedArray (array_in nodes a) g
  means nodes (tree.GroupedSet s g) = of.GroupedSet (dataset_in nodes s) g

  pub means_items : List Node → Trees → Values
  means_items nodes tree.NoTree = NoValue
  means_items nodes (tree.With ts t) = With (means_items nodes ts) (means nodes t)

  pub means_entries : List Node → tree.Entries → Entries
  means_entries nodes tree.NoEntry = NoEntry
  means_entries nodes (tree.Entry es key t) = Entry (means_entries nodes es) key (means nodes t)

-- what a value stands for
abbrev pub meaning : List Node → Value → of.Value
meaning nodes v = means nodes (tree v)

abbrev pub values : Values → List of.Value → Values
values vs [] = vs
values vs (v ∷ rest) = values (With vs v) rest

abbrev pub entries : Entries → List (TextBytes × of.Value) → Entries
entries es [] = es
entries es ((key, v) ∷ rest) = entries (Entry es key v) rest

unfoldable pub all_values : List Node → List Value → Values
all_values nodes vs = values NoValue (map (meaning nodes) vs)

abbrev pub with_key : List Node → TextBytes × Value → TextBytes × of.Value
with_key nodes kv = (kv.0, meaning nodes kv.1)

unfoldable pub all_entries : List Node → List (TextBytes × Value) → Entries
all_entries nodes es = entries NoEntry (map (with_key nodes) es)

-- what a value stands for, by its outermost layer
abbrev pub layer : List Node → Value-F Value → of.Value
layer nodes held.Absent = of.Absent
layer nodes held.Missing = of.Missing
layer nodes (held.Truth b) = of.Truth b
layer nodes (held.Number n) = of.Number n
layer nodes (held.Text t) = of.Text t
layer nodes (held.List vs) = of.Sequence (all_values nodes vs.items)
layer nodes (held.Table es) = of.Table (all_entries nodes es.items)
layer nodes (held.Slice start stop step) = of.Slice start stop step
layer nodes (held.Array a) = of.Array (array_in nodes a.value)
layer nodes (held.Set s) = of.Set (dataset_in nodes s.value)
layer nodes (held.Times coding ts) = of.Times coding ts
layer nodes (held.GroupedArray a g) = of.GroupedArray (array_in nodes a.value) g
layer nodes (held.GroupedSet s g) = of.GroupedSet (dataset_in nodes s.value) g

-- what the arguments of a call stand for
unfoldable pub given : List Node → Args → Given
given nodes args = record { plain = map (meaning nodes) args.plain.items; keyed = map (with_key nodes) args.keyed.items }

-- ---- values of a plan

-- each array and dataset in it is one of the plan, and its times stand in the years 1 to 9999
unfoldable mutual
  pub IsTreeIn : List Node → Tree → Type 0
  IsTreeIn nodes tree.Absent = ⊤
  IsTreeIn nodes tree.Missing = ⊤
  IsTreeIn nodes (tree.Truth b) = ⊤
  IsTreeIn nodes (tree.Number n) = ⊤
  IsTreeIn nodes (tree.Text t) = ⊤
  IsTreeIn nodes (tree.Sequence ts) = AreTreesIn nodes ts
  IsTreeIn nodes (tree.Table es) = AreEntriesIn nodes es
  IsTreeIn nodes (tree.Slice start stop step) = ⊤
  IsTreeIn nodes (tree.Array a) = IsArrayIn nodes a
  IsTreeIn nodes (tree.Set s) = IsDatasetIn nodes s
  IsTreeIn nodes (tree.Times coding ts) = All (IsTime coding.units.calendar) ts
  IsTreeIn nodes (tree.GroupedArray a g) = IsArrayIn nodes a
  IsTreeIn nodes (tree.GroupedSet s g) = IsDatasetIn nodes s

  pub AreTreesIn : List Node → Trees → Type 0
  AreTreesIn nodes tree.NoTree = ⊤
  AreTreesIn nodes (tree.With ts t) = AreTreesIn nodes ts × IsTreeIn nodes t

  pub AreEntriesIn : List Node → tree.Entries → Type 0
  AreEntriesIn nodes tree.NoEntry = ⊤
  AreEntriesIn nodes (tree.Entry es key t) = AreEntriesIn nodes es × IsTreeIn nodes t

pub record IsValueIn (nodes : List Node) (v : Value) : Type 0 where
  pub held : IsTreeIn nodes (tree v)

abbrev pub IsEntryIn : List Node → TextBytes × Value → Type 0
IsEntryIn nodes kv = IsValueIn nodes kv.1

-- the same by the outermost layer
abbrev pub IsLayerIn : List Node → Value-F Value → Type 0
IsLayerIn nodes held.Absent = ⊤
IsLayerIn nodes held.Missing = ⊤
IsLayerIn nodes (held.Truth b) = ⊤
IsLayerIn nodes (held.Number n) = ⊤
IsLayerIn nodes (held.Text t) = ⊤
IsLayerIn nodes (held.List vs) = All (IsValueIn nodes) vs.items
IsLayerIn nodes (held.Table es) = All (IsEntryIn nodes) es.items
IsLayerIn nodes (held.Slice start stop step) = ⊤
IsLayerIn nodes (held.Array a) = IsArrayIn nodes a.value
IsLayerIn nodes (held.Set s) = IsDatasetIn nodes s.value
IsLayerIn nodes (held.Times coding ts) = All (IsTime coding.units.calendar) ts
IsLayerIn nodes (held.GroupedArray a g) = IsArrayIn nodes a.value
IsLayerIn nodes (held.GroupedSet s g) = IsDatasetIn nodes s.value

-- the arguments of a call
pub record AreArgsIn (nodes : List Node) (args : Args) : Type 0 where
  pub plain : All (IsValueIn nodes) args.plain.items
  pub keyed : All (IsEntryIn nodes) args.keyed.items
