-- Datasets over joined axes have the names, dimensions and kinds that they had.
use Rattle.std.proofs.Common.{◌≡◌, ◌∙◌, ◌&&◌, ℕ, ℤ, suc, Bool, true, false, cond, List, [], ◌∷◌, length, map, Option, Some, None, Result, Ok, refl, sym, ap}
use Rattle.std.specs.Prelude.{find, option_map}
use Rattle.std.specs.Str.{bytes_eq}
use Rattle.std.specs.List.{list_all}
use Rattle.xr_types.specs.Results.{◌>>=◌, all_of, unless}
use Rattle.xr_types.specs.declared.axis.Axis.{Axis}
use Rattle.xr_types.specs.declared.fault.Fault.{Fault}
use Rattle.xr_types.specs.declared.fault.Fault.TheVariants.{Conflict}
use Rattle.xr_combination.specs.Concat.{check_kinds, pieces_called, set_names}
use Rattle.xr_combination.specs.Pieces.{Piece, common_kind_in, first_piece, first_set, have_dims_of_first, have_same_dims, kinds_of, variable_piece, variables_called}
use Rattle.xr_defs.specs.Values.{Dataset, Variable}
use Rattle.xr_defs.specs.WellFormed.{variable_names}
use Rattle.xr_merging.proofs.Called.{dims_of}
use Rattle.xr_relations.specs.Aligning.{fitted_set, fitted_variable}

-- ---- the dimensions of pieces

abbrev pub first_of : List (List (List ℕ)) → List (List ℕ)
first_of [] = []
first_of (ds ∷ rest) = ds

pub first_dims : (ps : List Piece) → (first_piece ps).dims ≡ first_of (dims_of ps)
first_dims [] = refl
first_dims (p ∷ ps) = refl

all_dims : (ds : List (List ℕ)) (ps : List Piece) → list_all (λ (p : Piece). have_same_dims ds p.dims) ps ≡ list_all (have_same_dims ds) (dims_of ps)
all_dims ds [] = refl
all_dims ds (p ∷ ps) = (λ i. have_same_dims ds p.dims && all_dims ds ps i)

alike_dims : (ps : List Piece) → have_dims_of_first ps ≡ list_all (have_same_dims (first_of (dims_of ps))) (dims_of ps)
alike_dims ps = all_dims (first_piece ps).dims ps ∙ ap (λ ds. list_all (have_same_dims ds) (dims_of ps)) (first_dims ps)

-- pieces of the same dimensions and kinds pass one check
abbrev check_pieces : List Piece → Result (Unit {0}) Fault
check_pieces ps = unless (have_dims_of_first ps) Conflict >>= λ u. common_kind_in (kinds_of ps) >>= λ t. Ok tt

same_check : (ps qs : List Piece) → dims_of ps ≡ dims_of qs → kinds_of ps ≡ kinds_of qs → check_pieces ps ≡ check_pieces qs
same_check ps qs dims kinds =
    ap (λ b. unless b Conflict >>= λ u. common_kind_in (kinds_of ps) >>= λ t. Ok tt) (alike_dims ps ∙ ap (λ ds. list_all (have_same_dims (first_of ds)) ds) dims ∙ sym (alike_dims qs))
    ∙ ap (λ ts. unless (have_dims_of_first qs) Conflict >>= λ u. common_kind_in ts >>= λ t. Ok tt) kinds

-- ---- datasets over joined axes

module _ (joined : List Axis) (fill : Option ℤ) where
  abbrev pub over : List Dataset → List Dataset
  over ss = map (fitted_set joined fill) ss

  names_same : (own : List Axis) (vs : List Variable) → variable_names (map (fitted_variable joined own fill) vs) ≡ variable_names vs
  names_same own [] = refl
  names_same own (v ∷ vs) = ap (λ ns. v.name ∷ ns) (names_same own vs)

  pub names_kept : (ss : List Dataset) → set_names (first_set (over ss)) ≡ set_names (first_set ss)
  unfolding fitted_set
  names_kept [] = refl
  names_kept (s ∷ ss) = names_same s.axes s.vars

  module _ (name : List ℕ) where
    found_same : (own : List Axis) (vs : List Variable) → find (λ (v : Variable). bytes_eq v.name name) (map (fitted_variable joined own fill) vs) ≡ option_map (fitted_variable joined own fill) (find (λ (v : Variable). bytes_eq v.name name) vs)
    found_same own [] = refl
    found_same own (v ∷ vs) = by (bytes_eq v.name name) (found_same own vs)
      where
        by : (b : Bool) → find (λ (w : Variable). bytes_eq w.name name) (map (fitted_variable joined own fill) vs) ≡ option_map (fitted_variable joined own fill) (find (λ (w : Variable). bytes_eq w.name name) vs)
            → cond b (Some (fitted_variable joined own fill v)) (find (λ (w : Variable). bytes_eq w.name name) (map (fitted_variable joined own fill) vs)) ≡ option_map (fitted_variable joined own fill) (cond b (Some v) (find (λ (w : Variable). bytes_eq w.name name) vs))
        by true rest = refl
        by false rest = rest

    abbrev behind : Dataset → Option Variable → List (Dataset × Variable) → List (Dataset × Variable)
    behind s o rest = elim o [ None ↦ rest | Some v ↦ (s, v) ∷ rest ]

    -- what a function of pieces tells of each is the same, where it is of one variable
    module _ {X : Type 0} (f : Piece → X) (same : (s : Dataset) (v : Variable) → f (variable_piece (fitted_set joined fill s, fitted_variable joined s.axes fill v)) ≡ f (variable_piece (s, v))) where
      one_same : (s : Dataset) (o : Option Variable) (ms ns : List (Dataset × Variable)) → map f (map variable_piece ms) ≡ map f (map variable_piece ns)
          → map f (map variable_piece (behind (fitted_set joined fill s) (option_map (fitted_variable joined s.axes fill) o) ms)) ≡ map f (map variable_piece (behind s o ns))
      one_same s None ms ns rest = rest
      one_same s (Some v) ms ns rest = (λ i. same s v i ∷ rest i)

      each_same : (ss : List Dataset) → map f (pieces_called (over ss) name) ≡ map f (pieces_called ss name)
      unfolding fitted_set
      each_same [] = refl
      each_same (s ∷ ss) =
          ap (λ o. map f (map variable_piece (behind (fitted_set joined fill s) o (variables_called name (over ss))))) (found_same s.axes s.vars)
          ∙ one_same s (find (λ (v : Variable). bytes_eq v.name name) s.vars) (variables_called name (over ss)) (variables_called name ss) (each_same ss)

  dims_kept : (name : List ℕ) (ss : List Dataset) → dims_of (pieces_called (over ss) name) ≡ dims_of (pieces_called ss name)
  dims_kept name ss = each_same name (λ (p : Piece). p.dims) (λ s v. refl) ss

  same_kinds : (name : List ℕ) (ss : List Dataset) → kinds_of (pieces_called (over ss) name) ≡ kinds_of (pieces_called ss name)
  same_kinds name ss = each_same name (λ (p : Piece). p.array.kind) (λ s v. refl) ss

  one_kept : (ss : List Dataset) (name : List ℕ) → check_kinds (over ss) name ≡ check_kinds ss name
  unfolding check_kinds
  one_kept ss name = same_check (pieces_called (over ss) name) (pieces_called ss name) (dims_kept name ss) (same_kinds name ss)

  all_kept : (ss : List Dataset) (names : List (List ℕ)) → all_of (check_kinds (over ss)) names ≡ all_of (check_kinds ss) names
  all_kept ss [] = refl
  all_kept ss (n ∷ ns) = (λ i. one_kept ss n i >>= λ u. all_kept ss ns i)

  pub kinds_kept : (ss : List Dataset) → all_of (check_kinds (over ss)) (set_names (first_set (over ss))) ≡ all_of (check_kinds ss) (set_names (first_set ss))
  kinds_kept ss = ap (all_of (check_kinds (over ss))) (names_kept ss) ∙ all_kept ss (set_names (first_set ss))

  -- ---- how many variables the first has

  count_same : (own : List Axis) (vs : List Variable) → length (map (fitted_variable joined own fill) vs) ≡ length vs
  count_same own [] = refl
  count_same own (v ∷ vs) = ap (λ n. suc n) (count_same own vs)

  pub count_kept : (ss : List Dataset) → length (first_set (over ss)).vars ≡ length (first_set ss).vars
  unfolding fitted_set
  count_kept [] = refl
  count_kept (s ∷ ss) = count_same s.axes s.vars
