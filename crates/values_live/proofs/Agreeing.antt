-- What a value stands for, and that it is of the plan, is the same in plans in which its nodes have the same values.
use Rattle.std.proofs.Common.{◌≡◌, ℕ, ℤ, Bool, List, [], ◌∷◌, map, get_or, Option, All, refl, sym, ap, subst, ◌∙◌, arith}
use Rattle.std.proofs.lemmas.List.Elements.{All-head, All-tail}
use Rattle.xr_types.specs.declared.kind.DType.{DType}
use Rattle.xr_types.specs.Names.{shape_over}
use Rattle.xr_arrays.specs.Arrays.{Array}
use Rattle.xr_arrays.specs.Nodes.{value}
use Rattle.xr_arrays.specs.declared.node.Node.{Node}
use Rattle.xr_defs.specs.Values as defs
use Rattle.xr_defs.specs.Meanings as of
use Rattle.xr_defs.specs.Meanings.{With, Entry}
use Rattle.xr_defs.specs.WellFormed.{IsDataArray, IsDataset}
use Rattle.plan_live.specs.Live.{IsLive, Agrees}
use Rattle.xr_values.specs.declared.data_array.DataArray.{DataArray}
use Rattle.xr_values.specs.declared.variable.Variable.{Variable}
use Rattle.xr_values.specs.declared.dataset.Dataset.{Dataset}
use Rattle.xr_values.specs.declared.value.Value.{Value}
use Rattle.xr_values.specs.Trees as tree
use Rattle.xr_values.specs.Trees.{Tree, Trees, tree}
use Rattle.xr_values.specs.Meaning.{meaning, means, means_items, means_entries, IsTreeIn, AreTreesIn, AreEntriesIn, IsValueIn}
use Rattle.xr_values.specs.Stands.{array_in, with_cells, variable_in, dataset_in, shape_named, IsNodeOf, IsArrayIn, IsDatasetIn}
use Rattle.values_live.specs.Marked.{IsVariableLive, IsDatasetLive, IsTreeLive, AreTreesLive, AreEntriesLive, IsValueLive}

module _ (live : List Bool) (old new : List Node) (agrees : Agrees live old new) where
  -- ---- arrays and datasets

  node_stays : (n : ℕ) (shape : List ℕ) (kind : DType) → IsLive live n → IsNodeOf old n shape kind → IsNodeOf new n shape kind
  node_stays n shape kind lives is =
      let same : value new n ≡ value old n = agrees.same n is.placed lives in
      record {
        placed = let e = agrees.long in let p = is.placed in omega (arith, e, p);
        has_shape = ap (λ (a : Array). a.shape) same ∙ is.has_shape;
        has_kind = ap (λ (a : Array). a.kind) same ∙ is.has_kind;
      }

  array_same : (a : DataArray) → IsLive live a.node → IsArrayIn old a → array_in new a ≡ array_in old a
  array_same a lives is = ap (λ (v : Array). with_cells a v.cells) (agrees.same a.node is.node.placed lives)

  array_stays : (a : DataArray) → IsLive live a.node → IsArrayIn old a → IsArrayIn new a
  array_stays a lives is =
      record {
        node = node_stays a.node (shape_over a.axes) a.kind lives is.node;
        formed = subst IsDataArray (sym (array_same a lives is)) is.formed;
      }

  abbrev IsVariableOf : List Node → Dataset → Variable → Type 0
  IsVariableOf nodes s v = IsNodeOf nodes v.node (shape_named s v) v.kind

  variable_same : (s : Dataset) (v : Variable) → IsVariableLive live v → IsVariableOf old s v → variable_in new v ≡ variable_in old v
  variable_same s v lives is = ap (λ (x : Array). of_cells x.cells) (agrees.same v.node is.placed lives)
    where
      of_cells : List (Option ℤ) → defs.Variable
      of_cells cells = record { name = v.name; dims = v.dims; kind = v.kind; masked = v.masked; attrs = v.attrs; cells = cells }

  variables_same : (s : Dataset) (vs : List Variable) → All (IsVariableLive live) vs → All (IsVariableOf old s) vs → map (variable_in new) vs ≡ map (variable_in old) vs
  variables_same s [] lives are = refl
  variables_same s (v ∷ vs) lives are =
      ap (λ w. w ∷ map (variable_in new) vs) (variable_same s v (All-head (IsVariableLive live) v vs lives) (All-head (IsVariableOf old s) v vs are))
      ∙ ap (λ ws. variable_in old v ∷ ws) (variables_same s vs (All-tail (IsVariableLive live) v vs lives) (All-tail (IsVariableOf old s) v vs are))

  dataset_same : (s : Dataset) → IsDatasetLive live s → IsDatasetIn old s → dataset_in new s ≡ dataset_in old s
  dataset_same s lives is = ap with_vars (variables_same s s.vars lives is.nodes_of)
    where
      with_vars : List defs.Variable → defs.Dataset
      with_vars vs = record { axes = s.axes; coords = s.coords; vars = vs; attrs = s.attrs; skipped = s.skipped }

  dataset_stays : (s : Dataset) → IsDatasetLive live s → IsDatasetIn old s → IsDatasetIn new s
  dataset_stays s lives is =
      record {
        nodes_of = λ k d lt. let v : Variable = get_or s.vars k d in node_stays v.node (shape_named s v) v.kind (lives k d lt) (is.nodes_of k d lt);
        formed = subst IsDataset (sym (dataset_same s lives is)) is.formed;
      }

  -- ---- values

  mutual
    unfolding means IsTreeIn IsTreeLive

    tree_same : (t : Tree) → IsTreeLive live t → IsTreeIn old t → means new t ≡ means old t
    tree_same tree.Absent lives is = refl
    tree_same tree.Missing lives is = refl
    tree_same (tree.Truth b) lives is = refl
    tree_same (tree.Number n) lives is = refl
    tree_same (tree.Text t) lives is = refl
    tree_same (tree.Sequence ts) lives is = ap of.Sequence (items_same ts lives is)
    tree_same (tree.Table es) lives is = ap of.Table (entries_same es lives is)
    tree_same (tree.Slice start stop step) lives is = refl
    tree_same (tree.Array a) lives is = ap of.Array (array_same a lives is)
    tree_same (tree.Set s) lives is = ap of.Set (dataset_same s lives is)
    tree_same (tree.Times coding ts) lives is = refl
    tree_same (tree.GroupedArray a by) lives is = ap (λ b. of.GroupedArray b by) (array_same a lives is)
    tree_same (tree.GroupedSet s by) lives is = ap (λ t. of.GroupedSet t by) (dataset_same s lives is)

    items_same : (ts : Trees) → AreTreesLive live ts → AreTreesIn old ts → means_items new ts ≡ means_items old ts
    items_same tree.NoTree lives is = refl
    items_same (tree.With ts t) lives is = ap (λ vs. With vs (means new t)) (items_same ts lives.0 is.0) ∙ ap (With (means_items old ts)) (tree_same t lives.1 is.1)

    entries_same : (es : tree.Entries) → AreEntriesLive live es → AreEntriesIn old es → means_entries new es ≡ means_entries old es
    entries_same tree.NoEntry lives is = refl
    entries_same (tree.Entry es key t) lives is = ap (λ vs. Entry vs key (means new t)) (entries_same es lives.0 is.0) ∙ ap (Entry (means_entries old es) key) (tree_same t lives.1 is.1)

  mutual
    unfolding IsTreeIn IsTreeLive

    tree_stays : (t : Tree) → IsTreeLive live t → IsTreeIn old t → IsTreeIn new t
    tree_stays tree.Absent lives is = tt
    tree_stays tree.Missing lives is = tt
    tree_stays (tree.Truth b) lives is = tt
    tree_stays (tree.Number n) lives is = tt
    tree_stays (tree.Text t) lives is = tt
    tree_stays (tree.Sequence ts) lives is = items_stay ts lives is
    tree_stays (tree.Table es) lives is = entries_stay es lives is
    tree_stays (tree.Slice start stop step) lives is = tt
    tree_stays (tree.Array a) lives is = array_stays a lives is
    tree_stays (tree.Set s) lives is = dataset_stays s lives is
    tree_stays (tree.Times coding ts) lives is = is
    tree_stays (tree.GroupedArray a by) lives is = array_stays a lives is
    tree_stays (tree.GroupedSet s by) lives is = dataset_stays s lives is

    items_stay : (ts : Trees) → AreTreesLive live ts → AreTreesIn old ts → AreTreesIn new ts
    items_stay tree.NoTree lives is = tt
    items_stay (tree.With ts t) lives is = (items_stay ts lives.0 is.0, tree_stays t lives.1 is.1)

    entries_stay : (es : tree.Entries) → AreEntriesLive live es → AreEntriesIn old es → AreEntriesIn new es
    entries_stay tree.NoEntry lives is = tt
    entries_stay (tree.Entry es key t) lives is = (entries_stay es lives.0 is.0, tree_stays t lives.1 is.1)

  pub meaning_same : (v : Value) → IsValueLive live v → IsValueIn old v → meaning new v ≡ meaning old v
  meaning_same v lives is = tree_same (tree v) lives.held is.held

  pub value_stays : (v : Value) → IsValueLive live v → IsValueIn old v → IsValueIn new v
  value_stays v lives is = record { held = tree_stays (tree v) lives.held is.held }
