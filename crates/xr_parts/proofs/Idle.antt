-- A dataset without its idle axes, the bare ones that nothing has, is as it has to be.
use Rattle.xr_parts.proofs.Common.{All, All-cons, All-head, All-nil, All-tail, AllByRecursion, AreAttributes, AreCells, Axis, Bool, Coord, Dataset, IsCoordinate, IsDataset, IsDatasetIn, IsDimension, IsFrame, IsNodeOf, IsThere, IsVariable, List, Node, Variable, [], among, ap, are_distinct, axis_called, axis_names, bytes_eq, bytes_eq_swap, cond, dataset_in, false, filter, filter_agree, is_held, is_kept, is_some, labelled, length, list_all, list_any, map, most_variables, names_of, or_left, or_right, refl, shape_named, subst, sym, true, variable_in, variable_names, without_idle, ℕ, ◌++◌, ◌+◌, ◌||◌, ◌∙◌, ◌∷◌, ◌≡◌, ◌≤◌}
use Rattle.xr_defs.specs.Values as of
use Rattle.xr_parts.proofs.Words.{AreAmong, absent_both, absent_left, absent_parts, all_hold, any_mapped, anything, both_hold, distinct_left, each_left, each_mapped, each_weaker, itself, some_both, some_left, some_same}
use Rattle.xr_parts.proofs.Axes.{called_cons, called_here, called_name, called_on}

-- ---- an axis that a test leaves

-- what a filter leaves passes its test
all_left : {X : Type 0} (p : X → Bool) (xs : List X) → list_all p (filter p xs) ≡ true
all_left p xs = all_hold (λ x. p x ≡ true) p (λ x e. e) (filter p xs) (each_left (λ x. Unit {0}) (λ x. p x ≡ true) p (λ x e one. e) xs (anything xs))

filter_swap : {X : Type 0} (p q : X → Bool) (xs : List X) → filter q (filter p xs) ≡ filter p (filter q xs)
filter_swap p q [] = refl
filter_swap p q (x ∷ xs) = by (p x) (q x) refl refl (filter_swap p q xs)
  where
    by : (a b : Bool) → p x ≡ a → q x ≡ b → filter q (filter p xs) ≡ filter p (filter q xs) → filter q (cond a (x ∷ filter p xs) (filter p xs)) ≡ filter p (cond b (x ∷ filter q xs) (filter q xs))
    by true true e f same = ap (λ t. cond t (x ∷ filter q (filter p xs)) (filter q (filter p xs))) f ∙ ap (λ ys. x ∷ ys) same ∙ sym (ap (λ t. cond t (x ∷ filter p (filter q xs)) (filter p (filter q xs))) e)
    by true false e f same = ap (λ t. cond t (x ∷ filter q (filter p xs)) (filter q (filter p xs))) f ∙ same
    by false true e f same = same ∙ sym (ap (λ t. cond t (x ∷ filter p (filter q xs)) (filter p (filter q xs))) e)
    by false false e f same = same

module _ (p : Axis → Bool) where
  pub kept_absent : (axes : List Axis) (ns : List (List ℕ)) (n : List ℕ) → among (axis_names axes ++ ns) n ≡ false → among (axis_names (filter p axes) ++ ns) n ≡ false
  kept_absent axes ns n absent =
      let parts = absent_parts (axis_names axes) ns n absent in absent_both (axis_names (filter p axes)) ns n (absent_left (λ (x : Axis). x.name) p axes n parts.0) parts.1

  -- an axis that is left with labels was there with them
  pub labelled_left : (axes : List Axis) (n : List ℕ) → among (axis_names (labelled axes)) n ≡ false → among (axis_names (labelled (filter p axes))) n ≡ false
  labelled_left axes n lacks = ap (λ xs. among (axis_names xs) n) (filter_swap p (λ (x : Axis). is_some x.labels) axes) ∙ absent_left (λ (x : Axis). x.name) p (labelled axes) n lacks

  pub kept_called : (axes : List Axis) (name : List ℕ) → among (axis_names axes) name ≡ true → p (axis_called axes name) ≡ true
      → (among (axis_names (filter p axes)) name ≡ true) × (axis_called (filter p axes) name ≡ axis_called axes name)
  kept_called [] name has passes = absurd cc
  kept_called (x ∷ xs) name has passes =
      by (bytes_eq x.name name) (p x) refl refl (ap (λ t. t || among (axis_names xs) name) (bytes_eq_swap x.name name) ∙ has) (sym (ap p (called_cons x xs name)) ∙ passes) (kept_called xs name)
    where
      by : (b k : Bool) → bytes_eq x.name name ≡ b → p x ≡ k → (b || among (axis_names xs) name) ≡ true → p (cond b x (axis_called xs name)) ≡ true
          → (among (axis_names xs) name ≡ true → p (axis_called xs name) ≡ true → (among (axis_names (filter p xs)) name ≡ true) × (axis_called (filter p xs) name ≡ axis_called xs name))
          → (among (axis_names (cond k (x ∷ filter p xs) (filter p xs))) name ≡ true) × (axis_called (cond k (x ∷ filter p xs) (filter p xs)) name ≡ axis_called (x ∷ xs) name)
      by true true e f has passes rest = (or_left (bytes_eq name x.name) _ (bytes_eq_swap name x.name ∙ e), called_here x (filter p xs) name e ∙ sym (called_here x xs name e))
      by true false e f has passes rest = absurd cc
      by false true e f has passes rest = let more = rest has passes in (or_right (bytes_eq name x.name) _ more.0, called_on x (filter p xs) name e ∙ more.1 ∙ sym (called_on x xs name e))
      by false false e f has passes rest = let more = rest has passes in (more.0, more.1 ∙ sym (called_on x xs name e))

-- ---- what something has

pub own_names : (ns : List (List ℕ)) → AreAmong ns ns
own_names [] = tt
own_names (n ∷ ns) = (or_left (bytes_eq n n) (among ns n) (itself n), each_weaker (λ m. among ns m ≡ true) (λ m. among (n ∷ ns) m ≡ true) ns (λ m has. or_right (bytes_eq m n) (among ns m) has) (own_names ns))

-- what holds of each name that an item has holds of some item
module _ {X : Type 0} (names : X → List (List ℕ)) where
  any_own : (xs whole : List X) → ((n : List ℕ) → list_any (λ x. among (names x) n) xs ≡ true → list_any (λ x. among (names x) n) whole ≡ true) → AllByRecursion (λ x. AllByRecursion (λ n. list_any (λ y. among (names y) n) whole ≡ true) (names x)) xs
  any_own [] whole within = tt
  any_own (x ∷ xs) whole within = (
    each_weaker (λ n. among (names x) n ≡ true) (λ n. list_any (λ y. among (names y) n) whole ≡ true) (names x) (λ n has. within n (or_left (among (names x) n) _ has)) (own_names (names x)),
    any_own xs whole (λ n some. within n (or_right (among (names x) n) _ some)),
  )

abbrev pub has_axis : List ℕ → Coord → Bool
has_axis n c = among (axis_names c.axes) n

abbrev pub has_dim : List ℕ → of.Variable → Bool
has_dim n v = among v.dims n

coords_have : (coords : List Coord) → AllByRecursion (λ (c : Coord). AllByRecursion (λ (y : Axis). list_any (has_axis y.name) coords ≡ true) c.axes) coords
coords_have coords =
    each_weaker (λ (c : Coord). AllByRecursion (λ n. list_any (has_axis n) coords ≡ true) (axis_names c.axes)) (λ (c : Coord). AllByRecursion (λ (y : Axis). list_any (has_axis y.name) coords ≡ true) c.axes) coords
    (λ c. each_mapped (λ n. list_any (has_axis n) coords ≡ true) (λ (y : Axis). y.name) c.axes) (any_own (λ (c : Coord). axis_names c.axes) coords coords (λ n some. some))

-- each variable's dimensions are those of some variable
pub vars_have : (vars : List of.Variable) → AllByRecursion (λ (v : of.Variable). AllByRecursion (λ d. list_any (has_dim d) vars ≡ true) v.dims) vars
vars_have vars = any_own (λ (v : of.Variable). v.dims) vars vars (λ n some. some)

-- ---- without the axes that nothing has

module _ (axes : List Axis) (coords : List Coord) (vars : List of.Variable) where
  abbrev pub left : List Axis
  left = filter (is_kept coords vars) axes

  there_left : (y : Axis) → IsThere axes y → list_any (has_axis y.name) coords ≡ true → IsThere left y
  there_left y there has =
      let stays = or_left (is_some y.labels || list_any (has_axis y.name) coords) (list_any (has_dim y.name) vars) (or_right (is_some y.labels) _ has) in
      let kept = kept_called (is_kept coords vars) axes y.name there.0 (ap (is_kept coords vars) there.1 ∙ stays) in
      (kept.0, kept.1 ∙ there.1)

  coord_stays : (c : Coord) → IsCoordinate axes c → AllByRecursion (λ (y : Axis). list_any (has_axis y.name) coords ≡ true) c.axes → IsCoordinate left c
  coord_stays c is have =
      record {
        name = is.name;
        over = both_hold (IsThere axes) (λ (y : Axis). list_any (has_axis y.name) coords ≡ true) (IsThere left) c.axes there_left is.over have;
        distinct = is.distinct;
        attrs = is.attrs;
        content = is.content;
      }

  pub dim_left : (d : List ℕ) → among (axis_names axes) d ≡ true → list_any (has_dim d) vars ≡ true → (among (axis_names left) d ≡ true) × (axis_called left d ≡ axis_called axes d)
  dim_left d has some =
      let x = axis_called axes d in
      kept_called (is_kept coords vars) axes d has (or_right (is_some x.labels || list_any (has_axis x.name) coords) _ (ap (λ n. list_any (has_dim n) vars) (called_name axes d has) ∙ some))

  pub sizes_left : (dims : List (List ℕ)) → AreAmong (axis_names axes) dims → AllByRecursion (λ d. list_any (has_dim d) vars ≡ true) dims → map (λ d. (axis_called left d).size) dims ≡ map (λ d. (axis_called axes d).size) dims
  sizes_left [] has some = refl
  sizes_left (d ∷ ds) has some =
      ap (λ (x : Axis). x.size ∷ map (λ d. (axis_called left d).size) ds) (dim_left d has.0 some.0).1 ∙ ap (λ t. (axis_called axes d).size ∷ t) (sizes_left ds has.1 some.1)

  var_stays : (v : of.Variable) → IsVariable axes v → AllByRecursion (λ d. list_any (has_dim d) vars ≡ true) v.dims → IsVariable left v
  var_stays v one have =
      record {
        name = one.name;
        over = both_hold (λ d. among (axis_names axes) d ≡ true) (λ d. list_any (has_dim d) vars ≡ true) (λ d. among (axis_names left) d ≡ true) v.dims (λ d has some. (dim_left d has some).0) one.over have;
        distinct = one.distinct;
        attrs = one.attrs;
        cells = subst (λ s. AreCells s v.kind v.masked v.cells) (sym (sizes_left v.dims one.over have)) one.cells;
      }

  -- the nodes of a plan
  pub nodes_left : (nodes : List Node) (vs : List Variable) → AllByRecursion (IsVariable axes) (map (variable_in nodes) vs) → AllByRecursion (λ (v : of.Variable). AllByRecursion (λ d. list_any (has_dim d) vars ≡ true) v.dims) (map (variable_in nodes) vs)
      → All (λ (v : Variable). IsNodeOf nodes v.node (map (λ d. (axis_called axes d).size) v.dims) v.kind) vs → All (λ (v : Variable). IsNodeOf nodes v.node (map (λ d. (axis_called left d).size) v.dims) v.kind) vs
  nodes_left nodes [] formed have all = All-nil (λ (v : Variable). IsNodeOf nodes v.node (map (λ d. (axis_called left d).size) v.dims) v.kind)
  nodes_left nodes (v ∷ vs) formed have all =
      All-cons (λ (w : Variable). IsNodeOf nodes w.node (map (λ d. (axis_called left d).size) w.dims) w.kind) v vs
      (subst (λ s. IsNodeOf nodes v.node s v.kind) (sym (sizes_left v.dims formed.0.over have.0)) (All-head (λ (w : Variable). IsNodeOf nodes w.node (map (λ d. (axis_called axes d).size) w.dims) w.kind) v vs all))
      (nodes_left nodes vs formed.1 have.1 (All-tail (λ (w : Variable). IsNodeOf nodes w.node (map (λ d. (axis_called axes d).size) w.dims) w.kind) v vs all))

-- ---- the dataset

-- a dataset in which bare axes that nothing has may stand
pub record IsLoose (s : of.Dataset) : Type 0 where
  pub frame : IsFrame s.axes s.coords
  pub vars : AllByRecursion (IsVariable s.axes) s.vars
  pub distinct : are_distinct (axis_names (labelled s.axes) ++ (names_of s.coords ++ variable_names s.vars)) ≡ true
  pub attrs : AreAttributes s.attrs
  pub few : length s.coords + length s.vars ≤ most_variables

module _ (s : of.Dataset) where
  abbrev test : Axis → Bool
  test = is_kept s.coords s.vars

  pub idle_axes : AllByRecursion IsDimension s.axes → AllByRecursion IsDimension (without_idle s).axes
  idle_axes each = each_left IsDimension IsDimension test (λ x e one. one) s.axes each

  pub idle_coords : AllByRecursion (IsCoordinate s.axes) s.coords → AllByRecursion (IsCoordinate (without_idle s).axes) s.coords
  idle_coords over =
      both_hold (IsCoordinate s.axes) (λ (c : Coord). AllByRecursion (λ (y : Axis). list_any (has_axis y.name) s.coords ≡ true) c.axes) (IsCoordinate (without_idle s).axes) s.coords (coord_stays s.axes s.coords s.vars) over (coords_have s.coords)

  pub idle_vars : AllByRecursion (IsVariable s.axes) s.vars → AllByRecursion (IsVariable (without_idle s).axes) s.vars
  idle_vars vars =
      both_hold (IsVariable s.axes) (λ (v : of.Variable). AllByRecursion (λ d. list_any (has_dim d) s.vars ≡ true) v.dims) (IsVariable (without_idle s).axes) s.vars (var_stays s.axes s.coords s.vars) vars (vars_have s.vars)

  pub idle_formed : IsLoose s → IsDataset (without_idle s)
  idle_formed is =
      let rest = names_of s.coords ++ variable_names s.vars in
      record {
        axes = record { each = idle_axes is.frame.dims.each; distinct = distinct_left (λ (x : Axis). x.name) test s.axes is.frame.dims.distinct };
        coords = idle_coords is.frame.over;
        vars = idle_vars is.vars;
        coords_distinct = (some_both (some_left (λ (x : Axis). x.name) test s.axes) (some_same (names_of s.coords))).distinct is.frame.distinct;
        vars_distinct = ap (λ xs. are_distinct (axis_names xs ++ rest)) (filter_swap test (λ (x : Axis). is_some x.labels) s.axes)
            ∙ (some_both (some_left (λ (x : Axis). x.name) test (labelled s.axes)) (some_same rest)).distinct is.distinct;
        busy = all_left test s.axes;
        attrs = is.attrs;
        few = is.few;
      }

-- ---- the program's dataset

pub axes_in : (nodes : List Node) (coords : List Coord) (vs : List Variable) (xs : List Axis) → filter (is_kept coords (map (variable_in nodes) vs)) xs ≡ filter (is_held coords vs) xs
unfolding is_held
axes_in nodes coords vs xs = filter_agree (is_kept coords (map (variable_in nodes) vs)) (is_held coords vs) (λ x. ap (λ t. (is_some x.labels || list_any (has_axis x.name) coords) || t) (any_mapped (has_dim x.name) (variable_in nodes) vs)) xs

module _ (nodes : List Node) (s : Dataset) where
  abbrev pub busy_set : Dataset
  busy_set = record s { axes = filter (is_held s.coords s.vars) s.axes }

  pub busy_is : without_idle (dataset_in nodes s) ≡ dataset_in nodes busy_set
  busy_is = ap (λ (xs : List Axis). record (dataset_in nodes s) { axes = xs }) (axes_in nodes s.coords s.vars s.axes)

  pub busy_in : IsLoose (dataset_in nodes s) → All (λ (v : Variable). IsNodeOf nodes v.node (shape_named s v) v.kind) s.vars → IsDatasetIn nodes busy_set
  busy_in is nodes_of =
      record {
        nodes_of =
            subst (λ (xs : List Axis). All (λ (v : Variable). IsNodeOf nodes v.node (map (λ d. (axis_called xs d).size) v.dims) v.kind) s.vars) (axes_in nodes s.coords s.vars s.axes)
            (nodes_left s.axes s.coords (map (variable_in nodes) s.vars) nodes s.vars is.vars (vars_have (map (variable_in nodes) s.vars)) nodes_of);
        formed = subst IsDataset busy_is (idle_formed (dataset_in nodes s) is);
      }
