-- The sizes of what a name gives.
use Rattle.std.proofs.Common.{◌≡◌, ◌∙◌, ◌≤◌, ◌&&◌, ℕ, Bool, true, false, Bor, List, [], ◌∷◌, get_or, length, map, refl, sym, ap}
use Rattle.std.specs.List.{list_all}
use Rattle.xr_types.specs.Names.{shape_over}
use Rattle.xr_types.specs.declared.axis.Axis.{Axis}
use Rattle.xr_arrays.specs.declared.node.Node.{Node}
use Rattle.xr_combination.specs.Concat.{is_new, pieces_called, set_names}
use Rattle.xr_combination.specs.Pieces.{first_piece, first_set}
use Rattle.xr_defs.specs.Parts.{axes_called}
use Rattle.xr_defs.specs.Selecting.{axis_called}
use Rattle.xr_defs.specs.Values as of
use Rattle.xr_joint.proofs.Firsts.{others, whole}
use Rattle.xr_merging.proofs.Called.{dims_called as dims_there}
use Rattle.xr_merging.specs.Members.{variables_called}
use Rattle.xr_merging.specs.Names.{names_in}
use Rattle.xr_stacking.specs.Members.{dims_after, dims_called}
use Rattle.xr_values.specs.Stands.{dataset_in}
use Rattle.xr_values.specs.declared.dataset.Dataset.{Dataset}
use Rattle.xr_values.specs.declared.variable.Variable.{Variable}
use Rattle.xr_concat.proofs.Fitted.{first_dims, first_of}
use Rattle.xr_concat.specs.Limits.{is_within_called}

-- the sizes of the axes of these names
pub shape_same : (axes : List Axis) (ds : List (List ℕ)) → shape_over (axes_called axes ds) ≡ map (λ d. (axis_called axes d).size) ds
shape_same axes [] = refl
shape_same axes (d ∷ ds) = (λ i. (axis_called axes d).size ∷ shape_same axes ds i)

abbrev pub those : List (Bor Variable) → List Variable
those vs = map (λ (v : Bor Variable). v.now) vs

-- the dimensions of the first variable of a name
pub dims_told : (nodes : List Node) (dim name : List ℕ) (ss : List Dataset) (vs : List (Bor Variable)) (v : Bor Variable) (new : Bool) (dims : List (List ℕ)) → 1 ≤ length vs → v ≡ get_or vs 0 v → those vs ≡ variables_called name ss
    → new ≡ is_new dim (map (dataset_in nodes) ss) → dims ≡ v.now.dims → dims_after new dim dims ≡ dims_called (is_new dim (map (dataset_in nodes) ss)) dim (map (dataset_in nodes) ss) name
dims_told nodes dim name ss vs v new dims some is are new_is dims_are = (λ i. dims_after (new_is i) dim ((dims_are ∙ sym there) i))
  where
    there : (first_piece (pieces_called (map (dataset_in nodes) ss) name)).dims ≡ v.now.dims
    there =
        first_dims (pieces_called (map (dataset_in nodes) ss) name)
        ∙ ap first_of (dims_there nodes name ss ∙ ap (map (λ (w : Variable). w.dims)) (sym are ∙ ap those (whole vs v some is)))

-- one variable after the other
module _ (nodes : List Node) (axes : List Axis) (dim : List ℕ) (ss : List of.Dataset) (vs : List Variable) (v : Variable) (some : 1 ≤ length vs) (is : v ≡ get_or vs 0 v) (b : Bool) (b_is : b ≡ is_within_called axes dim ss v.name) where
  abbrev are_within : List Variable → Bool
  are_within us = list_all (is_within_called axes dim ss) (names_in nodes us)

  by_first : are_within vs ≡ (b && are_within (others vs))
  by_first = ap are_within (whole vs v some is) ∙ ap (λ c. c && are_within (others vs)) (sym b_is)

  pub one_wide : b ≡ false → false ≡ are_within vs
  one_wide wide = sym (by_first ∙ ap (λ c. c && are_within (others vs)) wide)

  pub rest_within : b ≡ true → are_within (others vs) ≡ are_within vs
  rest_within narrow = sym (by_first ∙ ap (λ c. c && are_within (others vs)) narrow)

-- the names of the first dataset
pub first_names : (nodes : List Node) (ss : List Dataset) (s : Dataset) (vs : List Variable) → 1 ≤ length ss → s ≡ get_or ss 0 s → vs ≡ s.vars → names_in nodes vs ≡ set_names (first_set (map (dataset_in nodes) ss))
first_names nodes ss s vs some is are = ap (names_in nodes) are ∙ sym (ap (λ (ts : List Dataset). set_names (first_set (map (dataset_in nodes) ts))) (whole ss s some is))
