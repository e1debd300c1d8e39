-- Arrays and datasets without some labels, coordinates and variables are well formed.
use Rattle.xr_parts.proofs.Common.{AllByRecursion, AreCells, AreDimensions, Axis, Bool, Coord, DataArray, Err, Fault, Given, IsArrayIn, IsCoordinate, IsDimension, IsFrame, IsNodeOf, List, NoVariable, Node, None, Ok, Result, Variable, [], all_of, among, ap, are_distinct, array_in, array_without, axis_names, cond, coords_left, dropped_of_array, false, filter, has_coordinate, map, names_checked, names_given, names_of, not, put_behind, refl, shape_over, subst, sym, true, unlabelled, unless, vars_left, with_variables, ℕ, ◌++◌, ◌>>=◌, ◌∙◌, ◌∷◌, ◌≡◌}
use Rattle.xr_values.specs.Variables as variables
use Rattle.xr_parts.proofs.Words.{AreSome, distinct_left, each_left, each_map, some_both, some_left, some_same}
use Rattle.xr_parts.proofs.Alike.{coord_kept, names_kept, sizes_kept}

module _ (names : List (List ℕ)) where
  -- ---- one axis without its labels

  name_stays : (x : Axis) → (unlabelled names x).name ≡ x.name
  name_stays x = by (among names x.name)
    where
      by : (b : Bool) → (cond b (record x { labels = None }) x).name ≡ x.name
      by true = refl
      by false = refl

  size_stays : (x : Axis) → (unlabelled names x).size ≡ x.size
  size_stays x = by (among names x.name)
    where
      by : (b : Bool) → (cond b (record x { labels = None }) x).size ≡ x.size
      by true = refl
      by false = refl

  still_dimension : (x : Axis) → IsDimension x → IsDimension (unlabelled names x)
  still_dimension x is = by (among names x.name)
    where
      by : (b : Bool) → IsDimension (cond b (record x { labels = None }) x)
      by true = record { name = is.name; few = is.few; index = tt }
      by false = is

  pub names_stay : (axes : List Axis) → axis_names (map (unlabelled names) axes) ≡ axis_names axes
  names_stay = names_kept (unlabelled names) name_stays size_stays

  pub sizes_stay : (axes : List Axis) → shape_over (map (unlabelled names) axes) ≡ shape_over axes
  sizes_stay = sizes_kept (unlabelled names) name_stays size_stays

  -- ---- a frame without labels and coordinates

  names_left : (axes : List Axis) (coords : List Coord) → names_of (coords_left names axes coords) ≡ names_of (filter (λ (c : Coord). not (among names c.name)) coords)
  names_left axes coords = by (filter (λ (c : Coord). not (among names c.name)) coords)
    where
      by : (cs : List Coord) → names_of (map (λ (c : Coord). record c { axes = map (unlabelled names) c.axes }) cs) ≡ names_of cs
      by [] = refl
      by (c ∷ cs) = ap (λ ns. c.name ∷ ns) (by cs)

  dims_unlabelled : (axes : List Axis) → AreDimensions axes → AreDimensions (map (unlabelled names) axes)
  dims_unlabelled axes are = record { each = each_map IsDimension IsDimension (unlabelled names) axes still_dimension are.each; distinct = ap are_distinct (names_stay axes) ∙ are.distinct }

  over_unlabelled : (axes : List Axis) (coords : List Coord) → AllByRecursion (IsCoordinate axes) coords → AllByRecursion (IsCoordinate (map (unlabelled names) axes)) (coords_left names axes coords)
  over_unlabelled axes coords each =
      each_map (IsCoordinate axes) (IsCoordinate (map (unlabelled names) axes)) (λ (c : Coord). record c { axes = map (unlabelled names) c.axes }) (filter (λ (c : Coord). not (among names c.name)) coords) (coord_kept (unlabelled names) name_stays size_stays axes)
      (each_left (IsCoordinate axes) (IsCoordinate axes) (λ (c : Coord). not (among names c.name)) (λ c e one. one) coords each)

  pub coords_some : (axes : List Axis) (coords : List Coord) → AreSome (names_of coords) (names_of (coords_left names axes coords))
  coords_some axes coords = subst (AreSome (names_of coords)) (sym (names_left axes coords)) (some_left (λ (c : Coord). c.name) (λ (c : Coord). not (among names c.name)) coords)

  pub frame_left : (axes : List Axis) (coords : List Coord) → IsFrame axes coords → IsFrame (map (unlabelled names) axes) (coords_left names axes coords)
  frame_left axes coords is =
      record {
        dims = dims_unlabelled axes is.dims;
        over = over_unlabelled axes coords is.over;
        distinct = ap (λ ns. are_distinct (ns ++ names_of (coords_left names axes coords))) (names_stay axes) ∙ (some_both (some_same (axis_names axes)) (coords_some axes coords)).distinct is.distinct;
      }

  pub array_dropped : (nodes : List Node) (a b : DataArray) → IsArrayIn nodes a → b ≡ array_without names a → IsArrayIn nodes b
  array_dropped nodes a b is e =
      let f = is.formed in
      let frame = frame_left a.axes a.coords (record { dims = f.axes; over = f.coords; distinct = f.distinct }) in
      subst (IsArrayIn nodes) (sym e)
      (record {
        node = subst (λ s. IsNodeOf nodes a.node s a.kind) (sym (sizes_stay a.axes)) is.node;
        formed = record {
          name = f.name;
          axes = frame.dims;
          coords = frame.over;
          distinct = frame.distinct;
          attrs = f.attrs;
          cells = subst (λ s. AreCells s a.kind a.masked (array_in nodes a).cells) (sym (sizes_stay a.axes)) f.cells;
        };
      })

-- ---- variables that are left, put one after the other

pub put_apart : (names : List (List ℕ)) (vs : List Variable) → are_distinct (variables.names_of vs) ≡ true → with_variables [] (vars_left names vs) ≡ vars_left names vs
put_apart names vs d = put_behind [] (vars_left names vs) (distinct_left (λ (v : Variable). v.name) (λ (v : Variable). not (among names v.name)) vs d)

-- ---- the names that a call gives

pub in_turn : {A : Type 0} (view : List (List ℕ) → A) (check : List (List ℕ) → Result (Unit {0}) Fault) (r : Result (List (List ℕ)) Fault) → (r >>= λ ns. check ns >>= λ u. Ok (view ns)) ≡ ((r >>= λ ns. check ns >>= λ u. Ok ns) >>= λ ns. Ok (view ns))
in_turn view check (Err e) = refl
in_turn view check (Ok ns) = by (check ns)
  where
    by : (r : Result (Unit {0}) Fault) → (r >>= λ u. Ok (view ns)) ≡ ((r >>= λ u. Ok ns) >>= λ ns. Ok (view ns))
    by (Ok u) = refl
    by (Err e) = refl

pub array_dropped_is : (nodes : List Node) (a : DataArray) (g : Given) → dropped_of_array (array_in nodes a) g ≡ (names_checked [] a.axes a.coords g >>= λ names. Ok (array_in nodes (array_without names a)))
unfolding dropped_of_array names_checked
array_dropped_is nodes a g = in_turn (λ names. array_in nodes (array_without names a)) (all_of (λ n. unless (has_coordinate a.axes a.coords n) (NoVariable n))) (names_given g)
