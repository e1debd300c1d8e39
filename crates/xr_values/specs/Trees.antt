-- The program's values without their places in memory.
use Rattle.std.specs.Prelude.{ℕ, ℤ, Bool, List, [], ◌∷◌, Option}
use Rattle.xr_types.specs.declared.text.TextBytes.{TextBytes}
use Rattle.xr_types.specs.declared.axis.TimeCoding.{TimeCoding}
use Rattle.xr_defs.specs.declared.grouping.Grouping.{Grouping}
use Rattle.xr_defs.specs.declared.slice.Part.{Part}
use Rattle.xr_values.specs.declared.data_array.DataArray.{DataArray}
use Rattle.xr_values.specs.declared.dataset.Dataset.{Dataset}
use Rattle.xr_values.specs.declared.value.Value.{Value}
use Rattle.xr_values.specs.declared.value.Value.TheOpen as held
use Rattle.xr_values.specs.declared.value.Value.TheOpen.{Value-F}
use Rattle.xr_values.specs.declared.value.Value.TheFolds.{fold-Value, map-Value}

mutual
  pub data Tree : Type 0 where
    Absent : Tree
    Missing : Tree
    Truth : Bool → Tree
    Number : ℤ → Tree
    Text : List ℕ → Tree
    Sequence : Trees → Tree
    Table : Entries → Tree
    Slice : Part → Part → Option ℤ → Tree
    Array : DataArray → Tree
    Set : Dataset → Tree
    Times : TimeCoding → List ℤ → Tree
    GroupedArray : DataArray → Grouping → Tree
    GroupedSet : Dataset → Grouping → Tree

  -- items of a list, the last one outermost
  pub data Trees : Type 0 where
    NoTree : Trees
    With : Trees → Tree → Trees

  -- entries of a table by their keys, the last one outermost
  pub data Entries : Type 0 where
    NoEntry : Entries
    Entry : Entries → List ℕ → Tree → Entries

abbrev pub trees : Trees → List Tree → Trees
trees ts [] = ts
trees ts (t ∷ rest) = trees (With ts t) rest

abbrev pub entries : Entries → List (TextBytes × Tree) → Entries
entries es [] = es
entries es ((key, t) ∷ rest) = entries (Entry es key t) rest

abbrev pub tree_step : Value-F Tree → Tree
tree_step held.Absent = Absent
tree_step held.Missing = Missing
tree_step (held.Truth b) = Truth b
tree_step (held.Number n) = Number n
tree_step (held.Text t) = Text t
tree_step (held.List vs) = Sequence (trees NoTree vs.items)
tree_step (held.Table es) = Table (entries NoEntry es.items)
tree_step (held.Slice start stop step) = Slice start stop step
tree_step (held.Array a) = Array a.value
tree_step (held.Set s) = Set s.value
tree_step (held.Times coding ts) = Times coding ts
tree_step (held.GroupedArray a g) = GroupedArray a.value g
tree_step (held.GroupedSet s g) = GroupedSet s.value g

abbrev pub tree : Value → Tree
tree = fold-Value Tree tree_step

abbrev pub keyed_tree : TextBytes × Value → TextBytes × Tree
keyed_tree kv = (kv.0, tree kv.1)

-- by the outermost layer
abbrev pub tree_layer : Value-F Value → Tree
tree_layer x = tree_step (map-Value Value Tree tree x)
