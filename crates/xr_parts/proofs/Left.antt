-- A dataset without some labels, coordinates and variables is well formed without the bare axes that nothing has.
use Rattle.xr_parts.proofs.Common.{All-filter, Axis, Bool, Coord, Dataset, Given, IsDataset, IsDatasetIn, IsNodeOf, IsVariable, Labels, List, NoVariable, Node, None, Ok, Option, Some, Variable, [], all_of, among, ap, arith, axis_names, bytes_eq, check_names, cond, coords_left, dataset_in, dropped_of_set, false, filter, has_coordinate, has_name, labelled, left_of_set, length-map, map, names_checked, names_given, not, refl, set_without, shape_named, subst, sym, true, unlabelled, unless, variable_in, vars_left, without_idle, ℕ, ◌>>=◌, ◌||◌, ◌∙◌, ◌∷◌, ◌≡◌}
use Rattle.std.proofs.lemmas.List.Sums.{count_by-le-length, length-filter}
use Rattle.xr_defs.specs.Values as of
use Rattle.xr_parts.proofs.Words.{AreSome, any_mapped, each_left, some_both, some_left}
use Rattle.xr_parts.proofs.Alike.{nodes_alike, var_alike}
use Rattle.xr_parts.proofs.Dropped.{coords_some, frame_left, in_turn, names_stay, sizes_stay}
use Rattle.xr_parts.proofs.Idle.{busy_in, busy_is, IsLoose}

-- ---- without labels

module _ (names : List (List ℕ)) where
  -- the axes that have labels then
  labels_left : (axes : List Axis) → axis_names (labelled (map (unlabelled names) axes)) ≡ axis_names (filter (λ (x : Axis). not (among names x.name)) (labelled axes))
  labels_left [] = refl
  labels_left (x ∷ xs) = by (among names x.name) x.labels refl (labels_left xs)
    where
      others : List Axis
      others = filter (λ (y : Axis). not (among names y.name)) (labelled xs)

      by : (b : Bool) (o : Option Labels) → among names x.name ≡ b → axis_names (labelled (map (unlabelled names) xs)) ≡ axis_names others
          → axis_names (labelled (cond b (record x { labels = None }) (record x { labels = o }) ∷ map (unlabelled names) xs)) ≡ axis_names (filter (λ (y : Axis). not (among names y.name)) (labelled (record x { labels = o } ∷ xs)))
      by true None e same = same
      by true (Some l) e same = same ∙ sym (ap (λ t. axis_names (cond (not t) (record x { labels = Some l } ∷ others) others)) e)
      by false None e same = same
      by false (Some l) e same = ap (λ ns. x.name ∷ ns) same ∙ sym (ap (λ t. axis_names (cond (not t) (record x { labels = Some l } ∷ others) others)) e)

  labels_some : (axes : List Axis) → AreSome (axis_names (labelled axes)) (axis_names (labelled (map (unlabelled names) axes)))
  labels_some axes = subst (AreSome (axis_names (labelled axes))) (sym (labels_left axes)) (some_left (λ (x : Axis). x.name) (λ (x : Axis). not (among names x.name)) (labelled axes))

-- ---- the dataset

module _ (d : of.Dataset) (names : List (List ℕ)) (is : IsDataset d) where
  abbrev passes : of.Variable → Bool
  passes v = not (among names v.name)

  abbrev stays : Coord → Bool
  stays c = not (among names c.name)

  abbrev bare : of.Dataset
  bare = record d { axes = map (unlabelled names) d.axes; coords = coords_left names d.axes d.coords; vars = filter passes d.vars }

  bare_loose : IsLoose bare
  bare_loose =
      record {
        frame = frame_left names d.axes d.coords (record { dims = is.axes; over = is.coords; distinct = is.coords_distinct });
        vars = each_left (IsVariable d.axes) (IsVariable bare.axes) passes (λ v e one. var_alike bare.axes d.axes (names_stay names d.axes) (sizes_stay names d.axes) v one) d.vars is.vars;
        distinct = (some_both (labels_some names d.axes) (some_both (coords_some names d.axes d.coords) (some_left (λ (v : of.Variable). v.name) passes d.vars))).distinct is.vars_distinct;
        attrs = is.attrs;
        few =
            let same = length-map (filter stays d.coords) (λ (c : Coord). record c { axes = map (unlabelled names) c.axes }) in
            let coords = length-filter stays d.coords in
            let vars = length-filter passes d.vars in
            let a = count_by-le-length stays d.coords in
            let b = count_by-le-length passes d.vars in
            let most = is.few in
            omega (arith, same, coords, vars, a, b, most);
      }

-- ---- the program's dataset

vars_in : (nodes : List Node) (names : List (List ℕ)) (vs : List Variable) → filter (λ (v : of.Variable). not (among names v.name)) (map (variable_in nodes) vs) ≡ map (variable_in nodes) (vars_left names vs)
vars_in nodes names [] = refl
vars_in nodes names (v ∷ vs) = by (not (among names v.name)) (vars_in nodes names vs)
  where
    by : (b : Bool) → filter (λ (v : of.Variable). not (among names v.name)) (map (variable_in nodes) vs) ≡ map (variable_in nodes) (vars_left names vs)
        → cond b (variable_in nodes v ∷ filter (λ (v : of.Variable). not (among names v.name)) (map (variable_in nodes) vs)) (filter (λ (v : of.Variable). not (among names v.name)) (map (variable_in nodes) vs)) ≡ map (variable_in nodes) (cond b (v ∷ vars_left names vs) (vars_left names vs))
    by true e = ap (λ ws. variable_in nodes v ∷ ws) e
    by false e = e

module _ (nodes : List Node) (s : Dataset) (names : List (List ℕ)) where
  -- before its bare axes go
  abbrev whole : Dataset
  whole = record s { axes = map (unlabelled names) s.axes; coords = coords_left names [] s.coords; vars = vars_left names s.vars }

  left_is : left_of_set (dataset_in nodes s) names ≡ dataset_in nodes (set_without names s)
  left_is = ap (λ vs. without_idle (record (dataset_in nodes whole) { vars = vs })) (vars_in nodes names s.vars) ∙ busy_is nodes whole

  pub set_dropped : (t : Dataset) → t ≡ set_without names s → IsDatasetIn nodes s → IsDatasetIn nodes t
  set_dropped t e is =
      subst (IsDatasetIn nodes) (sym e)
      (busy_in nodes whole (subst (λ vs. IsLoose (record (dataset_in nodes whole) { vars = vs })) (vars_in nodes names s.vars) (bare_loose (dataset_in nodes s) names is.formed))
      (nodes_alike whole.axes s.axes (names_stay names s.axes) (sizes_stay names s.axes) nodes (vars_left names s.vars)
      (All-filter (λ (v : Variable). not (among names v.name)) (λ (v : Variable). IsNodeOf nodes v.node (shape_named s v) v.kind) s.vars is.nodes_of)))

-- ---- the names that a call gives

checked : (nodes : List Node) (s : Dataset) (ns : List (List ℕ)) → all_of (λ n. unless (has_name (dataset_in nodes s) n) (NoVariable n)) ns ≡ check_names s.vars s.axes s.coords ns
checked nodes s [] = refl
checked nodes s (n ∷ ns) =
    (λ i. unless (any_mapped (λ (v : of.Variable). bytes_eq v.name n) (variable_in nodes) s.vars i || has_coordinate s.axes s.coords n) (NoVariable n) >>= λ u. checked nodes s ns i)

pub set_dropped_is : (nodes : List Node) (s : Dataset) (g : Given) → dropped_of_set (dataset_in nodes s) g ≡ (names_checked s.vars s.axes s.coords g >>= λ names. Ok (dataset_in nodes (set_without names s)))
unfolding dropped_of_set names_checked
set_dropped_is nodes s g =
    in_turn (left_of_set (dataset_in nodes s)) (all_of (λ n. unless (has_name (dataset_in nodes s) n) (NoVariable n))) (names_given g)
    ∙ (λ i. (names_given g >>= λ ns. checked nodes s ns i >>= λ u. Ok ns) >>= λ names. Ok (left_is nodes s names i))
