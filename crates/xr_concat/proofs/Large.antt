-- What is put together is too large where one of its variables is.
use Rattle.std.proofs.Common.{◌≡◌, ◌∙◌, ◌&&◌, ◌||◌, ◌≤◌, ℕ, suc, Bool, true, false, cond, List, [], ◌∷◌, length, map, filter, flat_map, Result, Ok, Err, is_some, refl, sym, ap, arith}
use Rattle.std.specs.Prelude.{if◌then◌else◌, nat_le}
use Rattle.std.specs.Str.{bytes_eq}
use Rattle.std.specs.List.{list_all, list_any, AllByRecursion}
use Rattle.std.proofs.lemmas.Slice.Eq.{bytes_eq-Decides}
use Rattle.xr_types.specs.Names.{among, shape_over}
use Rattle.xr_types.specs.Results.{◌>>=◌, all_of, unless}
use Rattle.xr_types.specs.declared.axis.Axis.{Axis}
use Rattle.xr_types.specs.declared.fault.Fault.{Fault}
use Rattle.xr_types.specs.declared.fault.Fault.TheVariants.{Conflict, TooLarge}
use Rattle.xr_types.specs.declared.kind.DType.{DType}
use Rattle.xr_combination.specs.Concat.{array_name, check_constant, check_kinds, coord_of_all, first_variable, is_new, piece_concatenated, pieces_called, put_together, result_names, set_names, variable_concatenated}
use Rattle.xr_combination.specs.Pieces.{Piece, all_skipped, common_kind_of, each_of, first_piece, first_set, have_dims_of_first, is_array, piece_variable}
use Rattle.xr_defs.specs.Carrying.{joined_attrs, shared_name}
use Rattle.xr_defs.specs.Decoding.{is_kept}
use Rattle.xr_defs.specs.Limits.{most_cells}
use Rattle.xr_defs.specs.Meanings as meant
use Rattle.xr_defs.specs.Parts.{axes_called, variable_as_array, without_idle}
use Rattle.xr_defs.specs.Selecting.{are_few, are_within, axis_called, check_array, check_set, is_within, variable_array}
use Rattle.xr_defs.specs.Values as of
use Rattle.xr_defs.specs.Values.{Dataset, Variable}
use Rattle.xr_defs.specs.WellFormed.{variable_names}
use Rattle.xr_defs.specs.declared.value.Coord.{Coord}
use Rattle.xr_parts.proofs.Axes.{called_cons}
use Rattle.xr_parts.proofs.Idle.{has_axis, has_dim, vars_have}
use Rattle.xr_relations.specs.Aligning.{check_size}
use Rattle.xr_stacking.specs.Members.{dims_after, dims_called}
use Rattle.xr_concat.proofs.Sized.{shape_same}
use Rattle.xr_concat.specs.Limits.{are_within_called, is_within_called}
use Rattle.xr_concat.specs.Steps.{answered, made_of}

-- ---- sizes over the axes that something has

or-yes : (b : Bool) → (b || true) ≡ true
or-yes true = refl
or-yes false = refl

module _ (coords : List Coord) (vars : List Variable) where
  abbrev left : List Axis → List Axis
  left axes = filter (is_kept coords vars) axes

  abbrev size_in : List Axis → List ℕ → ℕ
  size_in axes d = (axis_called axes d).size

  kept : (x : Axis) → list_any (has_dim x.name) vars ≡ true → is_kept coords vars x ≡ true
  kept x has = ap (λ t. (is_some x.labels || list_any (has_axis x.name) coords) || t) has ∙ or-yes (is_some x.labels || list_any (has_axis x.name) coords)

  called_left : (d : List ℕ) → list_any (has_dim d) vars ≡ true → (axes : List Axis) → axis_called (left axes) d ≡ axis_called axes d
  called_left d has [] = refl
  called_left d has (x ∷ xs) = by (is_kept coords vars x) (bytes_eq x.name d) refl refl (called_left d has xs)
    where
      named : bytes_eq x.name d ≡ true → is_kept coords vars x ≡ true
      named e = kept x (ap (λ n. list_any (has_dim n) vars) ((bytes_eq-Decides x.name d).0 e) ∙ has)

      by : (k b : Bool) → is_kept coords vars x ≡ k → bytes_eq x.name d ≡ b → axis_called (left xs) d ≡ axis_called xs d → axis_called (cond k (x ∷ left xs) (left xs)) d ≡ axis_called (x ∷ xs) d
      by true b is e rest = called_cons x (left xs) d ∙ ap (λ y. cond (bytes_eq x.name d) x y) rest ∙ sym (called_cons x xs d)
      by false true is e rest = absurd (let no : true ≡ false = sym (named e) ∙ is in cc)
      by false false is e rest = rest ∙ sym (called_cons x xs d ∙ ap (λ c. cond c x (axis_called xs d)) e)

  sizes_left : (axes : List Axis) (ds : List (List ℕ)) → AllByRecursion (λ d. list_any (has_dim d) vars ≡ true) ds → map (size_in (left axes)) ds ≡ map (size_in axes) ds
  sizes_left axes [] all = refl
  sizes_left axes (d ∷ ds) all = (λ i. (called_left d all.0 axes i).size ∷ sizes_left axes ds all.1 i)

  all_left : (axes : List Axis) (vs : List Variable) → AllByRecursion (λ (v : Variable). AllByRecursion (λ d. list_any (has_dim d) vars ≡ true) v.dims) vs
      → list_all (λ (v : Variable). is_within (variable_array (left axes) v).shape) vs ≡ list_all (λ (v : Variable). is_within (variable_array axes v).shape) vs
  all_left axes [] all = refl
  all_left axes (v ∷ vs) all = (λ i. is_within (sizes_left axes v.dims all.0 i) && all_left axes vs all.1 i)

-- ---- limits of an answer

abbrev are_narrow : List Axis → List Variable → Bool
are_narrow axes vs = list_all (λ (v : Variable). is_within (variable_array axes v).shape) vs

few_wide : (a b c d : Bool) → c ≡ false → unless (a && (b && (c && d))) TooLarge ≡ Err TooLarge
unfolding unless
few_wide a b true d wide = absurd cc
few_wide true true false d wide = refl
few_wide true false false d wide = refl
few_wide false b false d wide = refl

set_refused : (s : Dataset) → are_narrow s.axes s.vars ≡ false → check_set s ≡ Err TooLarge
unfolding check_set
set_refused s wide = few_wide (list_all (λ (x : Axis). nat_le x.size most_cells) s.axes) (are_within s.coords) (are_narrow s.axes s.vars) (are_few s) wide

array_wide : (a b : Bool) → a ≡ false → unless (a && b) TooLarge ≡ Err TooLarge
unfolding unless
array_wide true b wide = absurd cc
array_wide false b wide = refl

-- of one that is alone
single_refused : (axes : List Axis) (vs : List Variable) → length vs ≤ 1 → are_narrow axes vs ≡ false → is_within (shape_over (axes_called axes (first_variable vs).dims)) ≡ false
single_refused axes [] few wide = absurd cc
single_refused axes (v ∷ []) few wide = ap is_within (shape_same axes v.dims) ∙ sole (is_within (variable_array axes v).shape) wide
  where
    sole : (b : Bool) → (b && true) ≡ false → b ≡ false
    sole true e = absurd cc
    sole false e = refl
single_refused axes (v ∷ w ∷ vs) few wide = absurd (let more : 2 ≤ length (v ∷ w ∷ vs) = omega arith in omega arith)

array_refused : (a : of.DataArray) → is_within (shape_over a.axes) ≡ false → check_array a ≡ Err TooLarge
unfolding check_array
array_refused a wide = array_wide (is_within (shape_over a.axes)) (are_within a.coords) wide

answer_refused : (vs : List meant.Value) (s : Dataset) → are_narrow s.axes s.vars ≡ false → (list_all is_array vs ≡ true → length s.vars ≤ 1) → answered vs s ≡ Err TooLarge
unfolding answered check_size
answer_refused vs s wide one = by (list_all is_array vs) refl
  where
    single : of.DataArray
    single = record (variable_as_array s (first_variable s.vars)) { name = shared_name (map array_name vs) }

    given : Bool → meant.Value
    given b = if b then meant.Array single else meant.Set s

    by : (b : Bool) → list_all is_array vs ≡ b → (check_size (given b) >>= λ q. Ok (given b)) ≡ Err TooLarge
    by true is = ap (λ r. r >>= λ q. Ok (meant.Array single)) (array_refused single (single_refused s.axes s.vars (one is) wide))
    by false is = ap (λ r. r >>= λ q. Ok (meant.Set s)) (set_refused s wide)

-- ---- the variables that are made

module _ (dim : List ℕ) (ss : List Dataset) where
  picked_dims : (b : Bool) (p q : Piece) (ds : List (List ℕ)) → p.dims ≡ ds → q.dims ≡ ds → (if b then p else q).dims ≡ ds
  picked_dims true p q ds first second = first
  picked_dims false p q ds first second = second

  piece_dims : (new : Bool) (t : DType) (ps : List Piece) → (piece_concatenated new dim t ps).dims ≡ dims_after new dim (first_piece ps).dims
  piece_dims true t ps = refl
  piece_dims false t ps = picked_dims (among (first_piece ps).dims dim) _ _ (first_piece ps).dims refl refl

  record IsMade (name : List ℕ) : Type 0 where
    var : Variable
    is : variable_concatenated dim ss name ≡ Ok var
    dims : var.dims ≡ dims_called (is_new dim ss) dim ss name

  one_made : (name : List ℕ) → check_kinds ss name ≡ Ok tt → IsMade name
  unfolding check_kinds variable_concatenated
  one_made name checked = by (unless (have_dims_of_first ps) Conflict) (common_kind_of ps) refl checked
    where
      ps : List Piece
      ps = pieces_called ss name

      pass : Unit {0}
      pass = tt

      made : DType → Variable
      made t = piece_variable name (piece_concatenated (is_new dim ss) dim t ps)

      by : (u : Result (Unit {0}) Fault) (r : Result DType Fault) → common_kind_of ps ≡ r → (u >>= λ v. r >>= λ t. Ok pass) ≡ Ok pass → IsMade name
      by (Ok v) (Ok t) kind e = record { var = made t; is = ap (λ x. x >>= λ k. Ok (made k)) kind; dims = piece_dims (is_new dim ss) t ps }
      by (Ok v) (Err f) kind e = absurd cc
      by (Err f) r kind e = absurd cc

  record AreMade (axes : List Axis) (names : List (List ℕ)) : Type 0 where
    vars : List Variable
    are : each_of (variable_concatenated dim ss) names ≡ Ok vars
    narrow : are_narrow axes vars ≡ list_all (is_within_called axes dim ss) names
    count : length vars ≡ length names

  all_made : (axes : List Axis) (names : List (List ℕ)) → all_of (check_kinds ss) names ≡ Ok tt → AreMade axes names
  unfolding each_of
  all_made axes [] checked = record { vars = []; are = refl; narrow = refl; count = refl }
  all_made axes (n ∷ ns) checked = by (check_kinds ss n) refl checked (all_made axes ns)
    where
      pass : Result (Unit {0}) Fault
      pass = Ok tt

      by : (r : Result (Unit {0}) Fault) → check_kinds ss n ≡ r → (r >>= λ u. all_of (check_kinds ss) ns) ≡ pass → (all_of (check_kinds ss) ns ≡ pass → AreMade axes ns) → AreMade axes (n ∷ ns)
      by (Err f) here rest later = absurd cc
      by (Ok u) here rest later =
          let one = one_made n here in
          let more = later rest in
          record {
            vars = one.var ∷ more.vars;
            are = ap (λ r. r >>= λ v. each_of (variable_concatenated dim ss) ns >>= λ vs. Ok (v ∷ vs)) one.is ∙ ap (λ r. r >>= λ vs. Ok (one.var ∷ vs)) more.are;
            narrow = (λ i. is_within ((ap (map (λ d. (axis_called axes d).size)) one.dims ∙ sym (shape_same axes (dims_called (is_new dim ss) dim ss n))) i) && more.narrow i);
            count = ap suc more.count;
          }

  -- ---- what is made of them

  module _ (axes : List Axis) (vs : List meant.Value) where
    abbrev all : List Axis
    all = axes_called axes (result_names dim ss)

    abbrev set_of : List Variable → Dataset
    set_of vars = without_idle (record {
      axes = all;
      coords = flat_map (coord_of_all dim axes ss) (first_set ss).coords;
      vars = vars;
      attrs = joined_attrs (map (λ (s : Dataset). s.attrs) ss);
      skipped = all_skipped ss;
    })

    put_made : (vars : List Variable) → each_of (variable_concatenated dim ss) (set_names (first_set ss)) ≡ Ok vars → put_together dim axes ss ≡ Ok (set_of vars)
    unfolding put_together
    put_made vars are = ap (λ r. r >>= λ us. Ok (set_of us)) are

    pub too_large : all_of (check_kinds ss) (set_names (first_set ss)) ≡ Ok tt → all_of (check_constant dim ss) (set_names (first_set ss)) ≡ Ok tt → (list_all is_array vs ≡ true → length (first_set ss).vars ≤ 1)
        → (own : List Axis) → own ≡ all → (b : Bool) → b ≡ are_within_called own dim ss → b ≡ false → made_of dim axes vs ss ≡ Err TooLarge
    unfolding made_of
    too_large checked constant one own own_is b b_is fails =
        ap (λ r. r >>= λ u. put_together dim axes ss >>= λ t. answered vs t) constant
        ∙ ap (λ r. r >>= λ t. answered vs t) (put_made made.vars made.are)
        ∙ answer_refused vs (set_of made.vars) (all_left (set_of made.vars).coords made.vars all made.vars (vars_have made.vars) ∙ made.narrow ∙ wide) (λ arrays. let few = one arrays in let same = made.count in let named = names_long (first_set ss).vars in omega arith)
      where
        wide : are_within_called all dim ss ≡ false
        wide = ap (λ xs. are_within_called xs dim ss) (sym own_is) ∙ sym b_is ∙ fails

        made : AreMade all (set_names (first_set ss))
        made = all_made all (set_names (first_set ss)) checked

        names_long : (us : List Variable) → length (variable_names us) ≡ length us
        names_long [] = refl
        names_long (u ∷ us) = ap suc (names_long us)
