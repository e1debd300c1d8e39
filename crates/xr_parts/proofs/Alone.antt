-- An array is well formed as a dataset of one variable, and only the count of its coordinates can pass a limit.
use Rattle.xr_parts.proofs.Common.{All-cons, All-nil, AreCells, Axis, Bool, Coord, DataArray, Dataset, DuplicateName, Err, Fault, IsArrayIn, IsDataArray, IsDatasetIn, IsNodeOf, IsVariable, List, Node, Ok, Result, TooLarge, Variable, [], among, ap, append_assoc, are_distinct, array_in, as_set, as_variable, axis_called, axis_names, bytes_eq, bytes_eq_swap, check_set, dataset_in, false, is_kept, is_name, is_some, labelled, leb-true, length, list_any, map, most_variables, names_of, nat_le, not, or_left, or_parts, or_right, refl, set_of, set_of_array, shape_named, shape_over, subst, sym, true, unless, variable_of, ℕ, ◌++◌, ◌+◌, ◌>>=◌, ◌||◌, ◌∙◌, ◌∷◌, ◌≡◌, ◌≤◌}
use Rattle.xr_defs.specs.Values as of
use Rattle.xr_parts.proofs.Words.{absent_both, all_hold, each_mapped, join, some_both, some_left, some_same}
use Rattle.xr_parts.proofs.Axes.{own_axes, sizes_again, the_axes}
use Rattle.xr_parts.proofs.Idle.{own_names}
use Rattle.xr_parts.proofs.Within.{set_within}

-- ---- the one variable

-- the sizes of the axes by their names
own_sizes : (axes : List Axis) → are_distinct (axis_names axes) ≡ true → map (λ d. (axis_called axes d).size) (axis_names axes) ≡ shape_over axes
own_sizes axes d = sym (sizes_again axes (axis_names axes)) ∙ ap shape_over (the_axes axes axes (own_axes axes d))

var_alone : (a : of.DataArray) (name : List ℕ) → IsDataArray a → is_name name ≡ true → IsVariable a.axes (as_variable name a)
var_alone a name is named =
    record {
      name = named;
      over = own_names (axis_names a.axes);
      distinct = is.axes.distinct;
      attrs = is.attrs;
      cells = subst (λ s. AreCells s a.kind a.masked a.cells) (sym (own_sizes a.axes is.axes.distinct)) is.cells;
    }

among_coords : (coords : List Coord) (name : List ℕ) → list_any (λ (c : Coord). bytes_eq c.name name) coords ≡ among (names_of coords) name
among_coords [] name = refl
among_coords (c ∷ cs) name = ap (λ t. t || list_any (λ (d : Coord). bytes_eq d.name name) cs) (bytes_eq_swap c.name name) ∙ ap (λ t. bytes_eq name c.name || t) (among_coords cs name)

-- the name beside those of indexes and coordinates
names_apart : (axes : List Axis) (coords : List Coord) (name : List ℕ) → are_distinct (axis_names axes ++ names_of coords) ≡ true → among (axis_names axes) name ≡ false → among (names_of coords) name ≡ false
    → are_distinct (axis_names (labelled axes) ++ (names_of coords ++ name ∷ [])) ≡ true
names_apart axes coords name distinct no_axis no_coord =
    (some_both (some_left (λ (x : Axis). x.name) (λ (x : Axis). is_some x.labels) axes) (some_same (names_of coords ++ name ∷ []))).distinct
    (ap are_distinct (sym (append_assoc (axis_names axes) (names_of coords) (name ∷ [])))
    ∙ join (axis_names axes ++ names_of coords) (name ∷ []) (record { first = distinct; second = refl; apart = (absent_both (axis_names axes) (names_of coords) name no_axis no_coord, tt) }))

module _ (nodes : List Node) (a : DataArray) (name : List ℕ) (is : IsArrayIn nodes a) (named : is_name name ≡ true) (open_name : (among (axis_names a.axes) name || list_any (λ (c : Coord). bytes_eq c.name name) a.coords) ≡ false) where
  parts : (among (axis_names a.axes) name ≡ false) × (list_any (λ (c : Coord). bytes_eq c.name name) a.coords ≡ false)
  parts = or_parts (among (axis_names a.axes) name) (list_any (λ (c : Coord). bytes_eq c.name name) a.coords) open_name

  formed_alone : length a.coords + 1 ≤ most_variables → IsDatasetIn nodes (set_of name a)
  formed_alone few =
      let f = is.formed in
      let own = own_sizes a.axes f.axes.distinct in
      record {
        nodes_of = All-cons (λ (v : Variable). IsNodeOf nodes v.node (shape_named (set_of name a) v) v.kind) (variable_of name a) []
            (subst (λ s. IsNodeOf nodes a.node s a.kind) (sym own) is.node) (All-nil (λ (v : Variable). IsNodeOf nodes v.node (shape_named (set_of name a) v) v.kind));
        formed = record {
          axes = f.axes;
          coords = f.coords;
          vars = (var_alone (array_in nodes a) name f named, tt);
          coords_distinct = f.distinct;
          vars_distinct = names_apart a.axes a.coords name f.distinct parts.0 (sym (among_coords a.coords name) ∙ parts.1);
          busy = all_hold (λ (x : Axis). among (axis_names a.axes) x.name ≡ true) (is_kept a.coords (as_variable name (array_in nodes a) ∷ []))
              (λ x has. or_right (is_some x.labels || list_any (λ (c : Coord). among (axis_names c.axes) x.name) a.coords) _ (or_left (among (axis_names a.axes) x.name) false has)) a.axes (each_mapped (λ n. among (axis_names a.axes) n ≡ true) (λ (x : Axis). x.name) a.axes (own_names (axis_names a.axes)));
          attrs = record { each = tt; distinct = refl };
          few = few;
        };
      }

  abbrev told : Bool → Result of.Dataset Fault
  told b = unless b TooLarge >>= λ v. Ok (set_of_array name (array_in nodes a))

  untaken : as_set name (array_in nodes a) ≡ told (nat_le (length a.coords + 1) most_variables)
  unfolding as_set unless
  untaken =
      let f = is.formed in
      ap (λ t. unless (not t) DuplicateName >>= λ u. check_set (set_of_array name (array_in nodes a)) >>= λ v. Ok (set_of_array name (array_in nodes a))) open_name
      ∙ ap (λ r. r >>= λ v. Ok (set_of_array name (array_in nodes a))) (set_within (set_of_array name (array_in nodes a)) f.axes.each f.coords (var_alone (array_in nodes a) name f named, tt))

  pub too_many : nat_le (length a.coords + 1) most_variables ≡ false → as_set name (array_in nodes a) ≡ Err TooLarge
  unfolding unless
  too_many full = untaken ∙ ap told full

  -- the dataset that is built is the one that the definition gives
  pub set_alone : (s : Dataset) → nat_le (length a.coords + 1) most_variables ≡ true → s ≡ set_of name a → (as_set name (array_in nodes a) ≡ Ok (dataset_in nodes s)) × IsDatasetIn nodes s
  unfolding unless
  set_alone s room e = (untaken ∙ ap told room ∙ ap (λ t. Ok (dataset_in nodes t)) (sym e), subst (IsDatasetIn nodes) (sym e) (formed_alone (leb-true (length a.coords + 1) most_variables room)))

pub taken_name : (nodes : List Node) (a : DataArray) (name : List ℕ) → (among (axis_names a.axes) name || list_any (λ (c : Coord). bytes_eq c.name name) a.coords) ≡ true → as_set name (array_in nodes a) ≡ Err DuplicateName
unfolding as_set unless
taken_name nodes a name taken = ap (λ t. unless (not t) DuplicateName >>= λ u. check_set (set_of_array name (array_in nodes a)) >>= λ v. Ok (set_of_array name (array_in nodes a))) taken
