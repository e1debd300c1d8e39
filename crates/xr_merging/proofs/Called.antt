-- The variables and coordinates of a name.
use Rattle.std.proofs.Common.{◌≡◌, ◌∙◌, ◌&&◌, ℕ, Bool, true, false, List, [], ◌∷◌, ◌++◌, map, Option, Some, None, Bor, refl, sym, ap, cond}
use Rattle.std.specs.Prelude.{find, flat_map, option_map}
use Rattle.std.specs.Str.{bytes_eq}
use Rattle.std.specs.List.{list_all}
use Rattle.xr_arrays.specs.declared.node.Node.{Node}
use Rattle.xr_defs.specs.Values as of
use Rattle.xr_defs.specs.declared.value.Coord.{Coord}
use Rattle.xr_types.specs.Results.{unless}
use Rattle.xr_types.specs.declared.axis.Axis.{Axis}
use Rattle.xr_types.specs.declared.fault.Fault.TheVariants.{Conflict}
use Rattle.xr_combination.specs.Merge.{check_dims, pieces_of}
use Rattle.xr_combination.specs.Pieces.{Piece, coords_called, have_dims_of_first, have_same_dims, variable_piece, variables_called as those_called}
use Rattle.xr_values.specs.Stands.{dataset_in, variable_in}
use Rattle.xr_values.specs.declared.dataset.Dataset.{Dataset}
use Rattle.xr_values.specs.declared.variable.Variable.{Variable}
use Rattle.xr_merging.specs.Dims.{all_coords_over, all_variables_over, are_over_first, is_coord_over, is_variable_over}
use Rattle.xr_merging.specs.Members.{coords_of, listed, variables_called, variables_of}

-- ---- what is found

pub found_here : {A : Type 0} (r : Option (Bor A)) (o : Option A) (x : Bor A) → option_map (λ (b : Bor A). b.now) r ≡ o → r ≡ Some x → listed o ≡ x.now ∷ []
found_here {A} r o x is some = ap listed (sym is ∙ ap (option_map (λ (b : Bor A). b.now)) some)

pub found_none : {A : Type 0} (r : Option (Bor A)) (o : Option A) → option_map (λ (b : Bor A). b.now) r ≡ o → r ≡ None → listed o ≡ []
found_none {A} r o is none = ap listed (sym is ∙ ap (option_map (λ (b : Bor A). b.now)) none)

pub variables_are : (name : List ℕ) (ss : List Dataset) → flat_map (variables_of name) ss ≡ variables_called name ss
unfolding variables_of
variables_are name [] = refl
variables_are name (s ∷ ss) = by (find (λ (v : Variable). bytes_eq v.name name) s.vars) (variables_are name ss)
  where
    by : (o : Option Variable) → flat_map (variables_of name) ss ≡ variables_called name ss
        → listed o ++ flat_map (variables_of name) ss ≡ elim o [ None ↦ variables_called name ss | Some v ↦ v ∷ variables_called name ss ]
    by None rest = rest
    by (Some v) rest = ap (λ vs. v ∷ vs) rest

pub coords_are : (name : List ℕ) (ss : List of.Dataset) → flat_map (coords_of name) ss ≡ coords_called name ss
unfolding coords_of
coords_are name [] = refl
coords_are name (s ∷ ss) = by (find (λ (c : Coord). bytes_eq c.name name) s.coords) (coords_are name ss)
  where
    by : (o : Option Coord) → flat_map (coords_of name) ss ≡ coords_called name ss
        → listed o ++ flat_map (coords_of name) ss ≡ elim o [ None ↦ coords_called name ss | Some c ↦ c ∷ coords_called name ss ]
    by None rest = rest
    by (Some c) rest = ap (λ cs. c ∷ cs) rest

-- ---- in any plan

pub found_in : (nodes : List Node) (name : List ℕ) (vs : List Variable) → find (λ (v : of.Variable). bytes_eq v.name name) (map (variable_in nodes) vs) ≡ option_map (variable_in nodes) (find (λ (v : Variable). bytes_eq v.name name) vs)
found_in nodes name [] = refl
found_in nodes name (v ∷ vs) = by (bytes_eq v.name name) (found_in nodes name vs)
  where
    by : (b : Bool) → find (λ (w : of.Variable). bytes_eq w.name name) (map (variable_in nodes) vs) ≡ option_map (variable_in nodes) (find (λ (w : Variable). bytes_eq w.name name) vs)
        → cond b (Some (variable_in nodes v)) (find (λ (w : of.Variable). bytes_eq w.name name) (map (variable_in nodes) vs)) ≡ option_map (variable_in nodes) (cond b (Some v) (find (λ (w : Variable). bytes_eq w.name name) vs))
    by true rest = refl
    by false rest = rest

-- the dimensions of the pieces of a name
abbrev pub dims_of : List Piece → List (List (List ℕ))
dims_of ps = map (λ (p : Piece). p.dims) ps

pub dims_called : (nodes : List Node) (name : List ℕ) (ss : List Dataset) → dims_of (pieces_of (map (dataset_in nodes) ss) name) ≡ map (λ (v : Variable). v.dims) (variables_called name ss)
dims_called nodes name [] = refl
dims_called nodes name (s ∷ ss) =
    ap (λ (o : Option of.Variable). dims_of (map variable_piece (elim o [ None ↦ those_called name (map (dataset_in nodes) ss) | Some v ↦ (dataset_in nodes s, v) ∷ those_called name (map (dataset_in nodes) ss) ]))) (found_in nodes name s.vars)
    ∙ by (find (λ (v : Variable). bytes_eq v.name name) s.vars) (dims_called nodes name ss)
  where
    by : (o : Option Variable) → dims_of (pieces_of (map (dataset_in nodes) ss) name) ≡ map (λ (v : Variable). v.dims) (variables_called name ss)
        → dims_of (map variable_piece (elim (option_map (variable_in nodes) o) [ None ↦ those_called name (map (dataset_in nodes) ss) | Some v ↦ (dataset_in nodes s, v) ∷ those_called name (map (dataset_in nodes) ss) ]))
        ≡ map (λ (v : Variable). v.dims) (elim o [ None ↦ variables_called name ss | Some v ↦ v ∷ variables_called name ss ])
    by None rest = rest
    by (Some v) rest = ap (λ ds. v.dims ∷ ds) rest

-- whether these have the dimensions of the first
abbrev agree_first : List (List (List ℕ)) → Bool
agree_first [] = true
agree_first (d ∷ ds) = list_all (have_same_dims d) (d ∷ ds)

all_have : (d : List (List ℕ)) (ps : List Piece) → list_all (λ (p : Piece). have_same_dims d p.dims) ps ≡ list_all (have_same_dims d) (dims_of ps)
all_have d [] = refl
all_have d (p ∷ ps) = ap (λ b. have_same_dims d p.dims && b) (all_have d ps)

all_over : (d : List (List ℕ)) (vs : List Variable) → list_all (λ (v : Variable). have_same_dims d v.dims) vs ≡ list_all (have_same_dims d) (map (λ (v : Variable). v.dims) vs)
all_over d [] = refl
all_over d (v ∷ vs) = ap (λ b. have_same_dims d v.dims && b) (all_over d vs)

of_pieces : (ps : List Piece) → have_dims_of_first ps ≡ agree_first (dims_of ps)
of_pieces [] = refl
of_pieces (p ∷ ps) = all_have p.dims (p ∷ ps)

of_variables : (vs : List Variable) → are_over_first vs ≡ agree_first (map (λ (v : Variable). v.dims) vs)
of_variables [] = refl
of_variables (v ∷ vs) = all_over v.dims (v ∷ vs)

pub over_first : (nodes : List Node) (name : List ℕ) (ss : List Dataset) (vs : List Variable) → vs ≡ variables_called name ss → are_over_first vs ≡ is_variable_over (map (dataset_in nodes) ss) name
unfolding is_variable_over
over_first nodes name ss vs is =
    ap are_over_first is ∙ of_variables (variables_called name ss) ∙ ap agree_first (sym (dims_called nodes name ss)) ∙ sym (of_pieces (pieces_of (map (dataset_in nodes) ss) name))

pub dims_checked : (axes : List Axis) (ss : List of.Dataset) → check_dims axes ss ≡ unless (all_variables_over ss && all_coords_over axes ss) Conflict
unfolding check_dims all_variables_over all_coords_over is_variable_over is_coord_over
dims_checked axes ss = refl
