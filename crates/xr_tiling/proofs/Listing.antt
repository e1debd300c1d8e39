-- The labels of the axis of a name, as the definitions look them up.
use Rattle.std.proofs.Common.{◌≡◌, ◌∙◌, ◌+◌, ℕ, Bool, true, false, List, [], ◌∷◌, get_or, Option, Some, None, refl, sym, ap, add-one}
use Rattle.std.specs.Prelude.{option_map, if◌then◌else◌}
use Rattle.std.specs.Str.{bytes_eq}
use Rattle.xr_types.specs.declared.axis.Axis.{Axis}
use Rattle.xr_types.specs.declared.axis.Label.{Label}
use Rattle.xr_types.specs.declared.axis.Labels.{Labels}
use Rattle.xr_types.specs.declared.axis.LabelList.{LabelList}
use Rattle.xr_arrays.specs.Labels.{labels_of}
use Rattle.xr_arrays.specs.declared.node.Node.{Node}
use Rattle.xr_defs.specs.Selecting.{axis_called}
use Rattle.xr_defs.specs.Values.{axis_position, no_axis}
use Rattle.xr_operations.specs.Alignment.{axes_named, axis_of, indexes, listed}
use Rattle.xr_combination.specs.Combine.{labels_along, lists_along}
use Rattle.xr_values.specs.Stands.{dataset_in}
use Rattle.xr_values.specs.declared.dataset.Dataset.{Dataset}
use Rattle.xr_tiling.specs.Called.{list_called}

abbrev list_in : Option Labels → Option LabelList
list_in o = option_map (λ (l : Labels). l.list) o

-- ---- of each that has some

abbrev list_of : Option Axis → Option LabelList
list_of None = None
list_of (Some x) = list_in x.labels

called_is : (name : List ℕ) (xs : List Axis) → list_called name xs ≡ list_of (axis_of name xs)
called_is name [] = refl
called_is name (x ∷ xs) = by (bytes_eq x.name name) (called_is name xs)
  where
    by : (b : Bool) → list_called name xs ≡ list_of (axis_of name xs) → (if b then list_in x.labels else list_called name xs) ≡ list_of (if b then Some x else axis_of name xs)
    by true rest = refl
    by false rest = rest

module _ (dim : List ℕ) (xs : List Axis) (lists : List (List Axis)) where
  abbrev with_list : Option LabelList → List LabelList
  with_list None = lists_along lists dim
  with_list (Some l) = l ∷ lists_along lists dim

  by_labels : (o : Option Labels) → listed (elim o as (λ o. List Labels) [ None ↦ indexes (axes_named dim lists) | Some l ↦ l ∷ indexes (axes_named dim lists) ]) ≡ with_list (list_in o)
  by_labels None = refl
  by_labels (Some l) = refl

  by_axis : (o : Option Axis) → listed (indexes (elim o as (λ o. List Axis) [ None ↦ axes_named dim lists | Some x ↦ x ∷ axes_named dim lists ])) ≡ with_list (list_of o)
  by_axis None = refl
  by_axis (Some x) = by_labels x.labels

  along_is : lists_along (xs ∷ lists) dim ≡ with_list (list_called dim xs)
  along_is = by_axis (axis_of dim xs) ∙ ap with_list (sym (called_is dim xs))

  pub along_some : (l : LabelList) → list_called dim xs ≡ Some l → lists_along (xs ∷ lists) dim ≡ l ∷ lists_along lists dim
  along_some l is = along_is ∙ ap with_list is

  pub along_none : list_called dim xs ≡ None → lists_along (xs ∷ lists) dim ≡ lists_along lists dim
  along_none is = along_is ∙ ap with_list is

-- ---- of one

called_on : (name : List ℕ) (x : Axis) (xs : List Axis) (b : Bool) (o : Option ℕ)
    → list_in (elim (if b then Some 0 else option_map (λ n. n + 1) o) as (λ o. Axis) [ None ↦ no_axis | Some k ↦ get_or (x ∷ xs) k no_axis ]).labels
    ≡ (if b then list_in x.labels else list_in (elim o as (λ o. Axis) [ None ↦ no_axis | Some k ↦ get_or xs k no_axis ]).labels)
called_on name x xs true o = refl
called_on name x xs false None = refl
called_on name x xs false (Some k) = ap (λ n. list_in (get_or (x ∷ xs) n no_axis).labels) (add-one k)

labels_are : (name : List ℕ) (xs : List Axis) → list_in (axis_called xs name).labels ≡ list_called name xs
labels_are name [] = refl
labels_are name (x ∷ xs) = called_on name x xs (bytes_eq x.name name) (axis_position name xs) ∙ ap (λ o. if bytes_eq x.name name then list_in x.labels else o) (labels_are name xs)

along_one : (o : Option Labels) (l : LabelList) → list_in o ≡ Some l → elim o as (λ o. List Label) [ None ↦ [] | Some m ↦ labels_of m.list ] ≡ labels_of l
along_one None l is = absurd cc
along_one (Some m) l is = let same : m.list ≡ l = cc in ap labels_of same

along_no : (o : Option Labels) → list_in o ≡ None → elim o as (λ o. List Label) [ None ↦ [] | Some m ↦ labels_of m.list ] ≡ []
along_no None is = refl
along_no (Some m) is = absurd cc

module _ (nodes : List Node) (s : Dataset) (dim : List ℕ) where
  pub labels_some : (l : LabelList) → list_called dim s.axes ≡ Some l → labels_along (dataset_in nodes s) dim ≡ labels_of l
  labels_some l is = along_one (axis_called s.axes dim).labels l (labels_are dim s.axes ∙ is)

  pub labels_none : list_called dim s.axes ≡ None → labels_along (dataset_in nodes s) dim ≡ []
  labels_none is = along_no (axis_called s.axes dim).labels (labels_are dim s.axes ∙ is)
