-- Values whose nodes are all live: the node of an array, and those of the variables of a dataset. Coordinates and labels hold
-- their cells themselves.
use Rattle.std.specs.Prelude.{◌≡◌, ℕ, Bool, List, length, All, IfSome, option_map, String, ⊤}
use Rattle.std.specs.BTreeMap.{BTreeMap, get_by_text}
use Rattle.std.specs.declared.alloc.Global.{Global}
use Rattle.xr_types.specs.declared.text.TextBytes.{TextBytes}
use Rattle.xr_arrays.specs.declared.node.Node.{Node}
use Rattle.plan_live.specs.Live.{IsLive}
use Rattle.xr_values.specs.declared.variable.Variable.{Variable}
use Rattle.xr_values.specs.declared.dataset.Dataset.{Dataset}
use Rattle.xr_values.specs.declared.value.Value.{Value}
use Rattle.xr_values.specs.declared.value.Value.TheOpen as held
use Rattle.xr_values.specs.declared.value.Value.TheOpen.{Value-F}
use Rattle.xr_values.specs.Meaning.{meaning, IsValueIn}
use Rattle.xr_values.specs.Trees as tree
use Rattle.xr_values.specs.Trees.{Tree, Trees, tree}

abbrev pub IsVariableLive : List Bool → Variable → Type 0
IsVariableLive live v = IsLive live v.node

abbrev pub IsDatasetLive : List Bool → Dataset → Type 0
IsDatasetLive live s = All (IsVariableLive live) s.vars

unfoldable mutual
  pub IsTreeLive : List Bool → Tree → Type 0
  IsTreeLive live tree.Absent = ⊤
  IsTreeLive live tree.Missing = ⊤
  IsTreeLive live (tree.Truth b) = ⊤
  IsTreeLive live (tree.Number n) = ⊤
  IsTreeLive live (tree.Text t) = ⊤
  IsTreeLive live (tree.Sequence ts) = AreTreesLive live ts
  IsTreeLive live (tree.Table es) = AreEntriesLive live es
  IsTreeLive live (tree.Slice start stop step) = ⊤
  IsTreeLive live (tree.Array a) = IsLive live a.node
  IsTreeLive live (tree.Set s) = IsDatasetLive live s
  IsTreeLive live (tree.Times coding ts) = ⊤
  IsTreeLive live (tree.GroupedArray a g) = IsLive live a.node
  IsTreeLive live (tree.GroupedSet s g) = IsDatasetLive live s

  pub AreTreesLive : List Bool → Trees → Type 0
  AreTreesLive live tree.NoTree = ⊤
  AreTreesLive live (tree.With ts t) = AreTreesLive live ts × IsTreeLive live t

  pub AreEntriesLive : List Bool → tree.Entries → Type 0
  AreEntriesLive live tree.NoEntry = ⊤
  AreEntriesLive live (tree.Entry es key t) = AreEntriesLive live es × IsTreeLive live t

pub record IsValueLive (live : List Bool) (v : Value) : Type 0 where
  pub held : IsTreeLive live (tree v)

abbrev pub IsEntryLive : List Bool → TextBytes × Value → Type 0
IsEntryLive live kv = IsValueLive live kv.1

-- the same by the outermost layer
abbrev pub IsLayerLive : List Bool → Value-F Value → Type 0
IsLayerLive live held.Absent = ⊤
IsLayerLive live held.Missing = ⊤
IsLayerLive live (held.Truth b) = ⊤
IsLayerLive live (held.Number n) = ⊤
IsLayerLive live (held.Text t) = ⊤
IsLayerLive live (held.List vs) = All (IsValueLive live) vs.items
IsLayerLive live (held.Table es) = All (IsEntryLive live) es.items
IsLayerLive live (held.Slice start stop step) = ⊤
IsLayerLive live (held.Array a) = IsLive live a.value.node
IsLayerLive live (held.Set s) = IsDatasetLive live s.value
IsLayerLive live (held.Times coding ts) = ⊤
IsLayerLive live (held.GroupedArray a g) = IsLive live a.value.node
IsLayerLive live (held.GroupedSet s g) = IsDatasetLive live s.value

-- ---- by the names of a map

-- a value of a plan of so many nodes has live nodes
abbrev pub IsLiveAmong : ℕ → List Bool → Value → Type 0
IsLiveAmong count live v = (nodes : List Node) → length nodes ≡ count → IsValueIn nodes v → IsValueLive live v

-- each value that a name stands for is of the plan
abbrev pub AreValuesIn : List Node → BTreeMap (String Global) Value → Type 0
AreValuesIn nodes values = (name : List ℕ) → IfSome (get_by_text values name) (IsValueIn nodes)

-- each name stands for the same in both plans
abbrev pub StandForTheSame : List Node → List Node → BTreeMap (String Global) Value → Type 0
StandForTheSame old new values = (name : List ℕ) → option_map (meaning new) (get_by_text values name) ≡ option_map (meaning old) (get_by_text values name)
