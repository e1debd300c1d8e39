-- A dataset with a variable put into it is as it has to be.
use Rattle.xr_aligning.proofs.Common.{All-filter, All-from_recursion, AllByRecursion, AreAbsent, AreCells, AreLoose, Array, Axis, Bool, Coord, DataArray, Dataset, Grows, IsApart, IsArrayAfter, IsArrayIn, IsContent, IsCoordinate, IsDataset, IsDatasetIn, IsDimension, IsLoose, IsNodeOf, IsThere, IsVarHere, IsVariable, List, Node, None, Stays, Variable, [], absent_left, all_coords, among, ap, are_distinct, arith, array_in, axis_called, axis_names, bytes_eq, bytes_eq_swap, called_holds, called_name, cond, coords_with, dataset_in, distinct_left, distinct_parts, each_left, each_map, each_named_left, each_weaker, false, filter, filter_agree, fitted, grown-length, grown_value, has_coord, has_index, idle_coords, idle_formed, idle_vars, is_busy, is_free, is_kept, is_name, is_some, joined_in, labelled, length, length-map, list_any, map, map-append, most_cells, most_variables, names_of, names_there, nodes_left, not, not-true, or_parts, others, put_variable, recursion_from_All, refl, relabelled, rest_axes, same_text, set_with, shape_over, sizes_again, sizes_called, split, stay_distinct, subst, sym, the_axes, true, variable_in, variable_names, variable_of, vars_have, with_variable, without_idle, without_variable, ℕ, ◌&&◌, ◌++◌, ◌+◌, ◌||◌, ◌∙◌, ◌∷◌, ◌≡◌, ◌≤◌}
use Rattle.std.specs.List.{All}
use Rattle.xr_defs.specs.Values as of
use Rattle.xr_relations.specs.Aligning.{with_variable as with_put}
use Rattle.xr_values.specs.Variables as variables
use Rattle.xr_parts.proofs.Words.{join}
use Rattle.xr_parts.proofs.Idle.{IsLoose as LooseSet}
use Rattle.xr_aligning.proofs.Called.{there_hold}

-- ---- axes

-- a joined axis is there under its name
in_there : (axes : List Axis) (x : Axis) → among (axis_names axes) x.name ≡ true → (joined_in axes x ≡ axis_called axes x.name) × ((joined_in axes x).name ≡ x.name) × IsThere axes (joined_in axes x)
in_there axes x has =
    let is : joined_in axes x ≡ axis_called axes x.name = ap (λ b. cond b (axis_called axes x.name) x) has in
    let name : (joined_in axes x).name ≡ x.name = ap (λ (y : Axis). y.name) is ∙ called_name axes x.name has in
    (is, name, (ap (among (axis_names axes)) name ∙ has, ap (axis_called axes) name ∙ sym is))

dims_of : (axes : List Axis) → AllByRecursion IsLoose axes → AllByRecursion (λ (x : Axis). x.size ≤ most_cells) axes → AllByRecursion IsDimension axes
dims_of [] loose short = tt
dims_of (x ∷ xs) loose short = (record { name = loose.0.name; few = short.0; index = loose.0.index }, dims_of xs loose.1 short.1)

-- ---- axes that stay

module _ (axes rest : List Axis) (all : AllByRecursion (Stays axes) rest) where
  dim_stays : (d : List ℕ) → among (axis_names rest) d ≡ true → (among (axis_names axes) d ≡ true) × ((axis_called axes d).size ≡ (axis_called rest d).size)
  dim_stays d has =
      let found = called_holds (Stays axes) d rest all has in (
        ap (among (axis_names axes)) (sym found.1) ∙ found.0.0,
        ap (λ n. (axis_called axes n).size) (sym found.1) ∙ ap (λ (x : Axis). x.size) (sym (in_there axes (axis_called rest d) found.0.0).0) ∙ found.0.1,
      )

  same_sizes : (ds : List (List ℕ)) → AllByRecursion (λ d. among (axis_names rest) d ≡ true) ds → map (λ d. (axis_called axes d).size) ds ≡ map (λ d. (axis_called rest d).size) ds
  same_sizes [] over = refl
  same_sizes (d ∷ ds) over = (λ i. (dim_stays d over.0).1 i ∷ same_sizes ds over.1 i)

-- ---- coordinates

module _ (axes : List Axis) where
  same_axis_names : (xs : List Axis) → AllByRecursion (Stays axes) xs → axis_names (map (joined_in axes) xs) ≡ axis_names xs
  same_axis_names [] all = refl
  same_axis_names (x ∷ xs) all = (λ i. (in_there axes x all.0.0).1 i ∷ same_axis_names xs all.1 i)

  same_shape : (xs : List Axis) → AllByRecursion (Stays axes) xs → shape_over (map (joined_in axes) xs) ≡ shape_over xs
  same_shape [] all = refl
  same_shape (x ∷ xs) all = (λ i. all.0.1 i ∷ same_shape xs all.1 i)

  own_formed : (rest : List Axis) → AllByRecursion (Stays axes) rest → (c : Coord) → IsCoordinate rest c → IsCoordinate axes (relabelled axes c)
  own_formed rest all c is =
      let stay = there_hold (Stays axes) rest c.axes all is.over in
      record {
        name = is.name;
        over = each_map (Stays axes) (IsThere axes) (joined_in axes) c.axes (λ x one. (in_there axes x one.0).2) stay;
        distinct = ap are_distinct (same_axis_names c.axes stay) ∙ is.distinct;
        attrs = is.attrs;
        content = subst (λ s. IsContent s c.content) (sym (same_shape c.axes stay)) is.content;
      }

  -- those of the array, whose axes are joined ones
  new_formed : (theirs : List Axis) → AllByRecursion (IsThere axes) theirs → (c : Coord) → IsCoordinate theirs c → IsCoordinate axes c
  new_formed theirs there c is = record { name = is.name; over = there_hold (IsThere axes) theirs c.axes there is.over; distinct = is.distinct; attrs = is.attrs; content = is.content }

both_all : {X : Type 0} (P : X → Type 0) (xs ys : List X) → AllByRecursion P xs → AllByRecursion P ys → AllByRecursion P (xs ++ ys)
both_all P [] ys a b = b
both_all P (x ∷ xs) ys a b = (a.0, both_all P xs ys a.1 b)

relabelled_names : (axes : List Axis) (cs : List Coord) → names_of (map (relabelled axes) cs) ≡ names_of cs
relabelled_names axes [] = refl
relabelled_names axes (c ∷ cs) = ap (λ ns. c.name ∷ ns) (relabelled_names axes cs)

pub coord_among : (cs : List Coord) (n : List ℕ) → has_coord cs n ≡ among (names_of cs) n
coord_among [] n = refl
coord_among (c ∷ cs) n = (λ i. bytes_eq_swap c.name n i || coord_among cs n i)

-- a test that says a name is absent
absent_by : (xs : List (List ℕ)) (p : Coord → Bool) (cs : List Coord) → ((c : Coord) → p c ≡ true → among xs c.name ≡ false) → AreAbsent xs (names_of (filter p cs))
absent_by xs p [] gives = tt
absent_by xs p (c ∷ cs) gives = by (p c) refl (absent_by xs p cs gives)
  where
    by : (b : Bool) → p c ≡ b → AreAbsent xs (names_of (filter p cs)) → AreAbsent xs (names_of (cond b (c ∷ filter p cs) (filter p cs)))
    by true e rest = (gives c e, rest)
    by false e rest = rest

absent_more : (xs : List (List ℕ)) (cs ds : List Coord) → AreAbsent xs (names_of cs) → AreAbsent xs (names_of ds) → AreAbsent xs (names_of (cs ++ ds))
absent_more xs cs ds a b = subst (AreAbsent xs) (sym (map-append (λ (c : Coord). c.name) cs ds)) (both_all (λ n. among xs n ≡ false) (names_of cs) (names_of ds) a b)

module _ (axes : List Axis) (own new : List Coord) (distinct_own : are_distinct (names_of own) ≡ true) (distinct_new : are_distinct (names_of new) ≡ true) where
  abbrev first : List Coord
  first = filter (is_free axes) (map (relabelled axes) own)

  abbrev fresh : List Coord
  fresh = filter (λ (c : Coord). not (has_coord own c.name)) new

  abbrev second : List Coord
  second = filter (is_free axes) fresh

  first_distinct : are_distinct (names_of first) ≡ true
  first_distinct = distinct_left (λ (c : Coord). c.name) (is_free axes) (map (relabelled axes) own) (ap are_distinct (relabelled_names axes own) ∙ distinct_own)

  second_distinct : are_distinct (names_of second) ≡ true
  second_distinct = distinct_left (λ (c : Coord). c.name) (is_free axes) fresh (distinct_left (λ (c : Coord). c.name) (λ (c : Coord). not (has_coord own c.name)) new distinct_new)

  apart : AreAbsent (names_of first) (names_of second)
  apart =
      each_named_left (λ (c : Coord). c.name) (is_free axes) (λ n. among (names_of first) n ≡ false) fresh
      (absent_by (names_of first) (λ (c : Coord). not (has_coord own c.name)) new (λ c e. absent_left (λ (d : Coord). d.name) (is_free axes) (map (relabelled axes) own) c.name (ap (λ ns. among ns c.name) (relabelled_names axes own) ∙ sym (coord_among own c.name) ∙ not-true (has_coord own c.name) e)))

  coords_distinct : are_distinct (names_of (coords_with axes own new)) ≡ true
  coords_distinct = ap are_distinct (map-append (λ (c : Coord). c.name) first second) ∙ join (names_of first) (names_of second) (record { first = first_distinct; second = second_distinct; apart = apart })

  free : (cs : List Coord) → AreAbsent (axis_names axes) (names_of (filter (is_free axes) cs))
  free cs = absent_by (axis_names axes) (is_free axes) cs (λ c e. not-true (among (axis_names axes) c.name) e)

  all_free : AreAbsent (axis_names axes) (names_of (coords_with axes own new))
  all_free = absent_more (axis_names axes) first second (free (map (relabelled axes) own)) (free fresh)

-- ---- variables

module _ (old new : List Node) (grows : Grows old new) where
  pub still : (v : Variable) (s : List ℕ) → IsNodeOf old v.node s v.kind → IsNodeOf new v.node s v.kind
  still v s is =
      let same = grown_value old new v.node grows is.placed in
      record {
        placed = let longer = grown-length old new grows in let here = is.placed in omega arith;
        has_shape = ap (λ (a : Array). a.shape) same ∙ is.has_shape;
        has_kind = ap (λ (a : Array). a.kind) same ∙ is.has_kind;
      }

  pub same_variable : (v : Variable) (s : List ℕ) → IsNodeOf old v.node s v.kind → variable_in new v ≡ variable_in old v
  same_variable v s is = ap (λ (a : Array). record { name = v.name; dims = v.dims; kind = v.kind; masked = v.masked; attrs = v.attrs; cells = a.cells }) (grown_value old new v.node grows is.placed)

  -- as it has to be over axes in which its dimensions keep their sizes
  kept_variable : (axes rest : List Axis) → AllByRecursion (Stays axes) rest → (v : Variable) → IsNodeOf old v.node (sizes_called rest v.dims) v.kind → IsVariable rest (variable_in old v) → IsVarHere new axes v
  kept_variable axes rest all v node is =
      let sizes = sym (same_sizes axes rest all v.dims is.over) in
      record {
        node = subst (λ s. IsNodeOf new v.node s v.kind) sizes (still v (sizes_called rest v.dims) node);
        formed = subst (IsVariable axes) (sym (same_variable v (sizes_called rest v.dims) node)) (record {
          name = is.name;
          over = each_weaker (λ d. among (axis_names rest) d ≡ true) (λ d. among (axis_names axes) d ≡ true) v.dims (λ d has. (dim_stays axes rest all d has).0) is.over;
          distinct = is.distinct;
          attrs = is.attrs;
          cells = subst (λ s. AreCells s v.kind v.masked (variable_in old v).cells) sizes is.cells;
        });
      }

  vars_kept : (axes rest : List Axis) → AllByRecursion (Stays axes) rest → (vs : List Variable) → AllByRecursion (λ (v : Variable). IsNodeOf old v.node (sizes_called rest v.dims) v.kind) vs → AllByRecursion (IsVariable rest) (map (variable_in old) vs) → AllByRecursion (IsVarHere new axes) vs
  vars_kept axes rest all [] nodes are = tt
  vars_kept axes rest all (v ∷ vs) nodes are = (kept_variable axes rest all v nodes.0 are.0, vars_kept axes rest all vs nodes.1 are.1)

pub all_formed : (nodes : List Node) (axes : List Axis) (ws : List Variable) → AllByRecursion (IsVarHere nodes axes) ws → AllByRecursion (IsVariable axes) (map (variable_in nodes) ws)
all_formed nodes axes ws all = each_map (IsVarHere nodes axes) (IsVariable axes) (variable_in nodes) ws (λ w here. here.formed) all

pub all_placed : (nodes : List Node) (axes : List Axis) (ws : List Variable) → AllByRecursion (IsVarHere nodes axes) ws → AllByRecursion (λ (v : Variable). IsNodeOf nodes v.node (sizes_called axes v.dims) v.kind) ws
all_placed nodes axes ws all = each_weaker (IsVarHere nodes axes) (λ (v : Variable). IsNodeOf nodes v.node (sizes_called axes v.dims) v.kind) ws (λ w here. here.node) all

-- ---- the variables of both

-- what holds of a variable and of those of other names
module _ (P : Variable → Type 0) (w : Variable) (one : P w) where
  put_all : (vs : List Variable) → are_distinct (variables.names_of vs) ≡ true → AllByRecursion P (others w.name vs) → AllByRecursion P (with_variable vs w)
  put_all [] distinct all = (one, tt)
  put_all (v ∷ vs) distinct all = by (bytes_eq v.name w.name) refl (put_all vs parts.1) all
    where
      parts : (among (variables.names_of vs) v.name ≡ false) × (are_distinct (variables.names_of vs) ≡ true)
      parts = distinct_parts v.name (variables.names_of vs) distinct

      alone : (us : List Variable) → among (variables.names_of us) v.name ≡ false → bytes_eq v.name w.name ≡ true → others w.name us ≡ us
      alone [] absent e = refl
      alone (u ∷ us) absent e =
          let apart = or_parts (bytes_eq v.name u.name) (among (variables.names_of us) v.name) absent in
          let other : bytes_eq u.name w.name ≡ false = ap (bytes_eq u.name) (sym (same_text v.name w.name e)) ∙ bytes_eq_swap u.name v.name ∙ apart.0 in
          ap (λ b. cond (not b) (u ∷ others w.name us) (others w.name us)) other ∙ ap (λ r. u ∷ r) (alone us apart.1 e)

      by : (b : Bool) → bytes_eq v.name w.name ≡ b → (AllByRecursion P (others w.name vs) → AllByRecursion P (with_variable vs w)) → AllByRecursion P (cond (not b) (v ∷ others w.name vs) (others w.name vs)) → AllByRecursion P (cond b (w ∷ vs) (v ∷ with_variable vs w))
      by true e rest all = (one, subst (AllByRecursion P) (alone vs parts.0 e) all)
      by false e rest all = (all.0, rest all.1)

module _ (old new : List Node) (grows : Grows old new) (own : List Axis) (w : Variable) where
  abbrev Own : Variable → Type 0
  Own v = IsNodeOf old v.node (sizes_called own v.dims) v.kind

  -- as the definition puts it
  put_is : (vs : List Variable) → AllByRecursion Own vs → map (variable_in new) (with_variable vs w) ≡ put_variable (variable_in new w) (map (variable_in old) vs)
  put_is [] nodes = refl
  put_is (v ∷ vs) nodes = by (bytes_eq v.name w.name) (put_is vs nodes.1)
    where
      same : (us : List Variable) → AllByRecursion Own us → map (variable_in new) us ≡ map (variable_in old) us
      same [] ns = refl
      same (u ∷ us) ns = (λ i. same_variable old new grows u (map (λ d. (axis_called own d).size) u.dims) ns.0 i ∷ same us ns.1 i)

      by : (b : Bool) → map (variable_in new) (with_variable vs w) ≡ put_variable (variable_in new w) (map (variable_in old) vs)
          → map (variable_in new) (cond b (w ∷ vs) (v ∷ with_variable vs w)) ≡ cond b (variable_in new w ∷ map (variable_in old) vs) (variable_in old v ∷ put_variable (variable_in new w) (map (variable_in old) vs))
      by true rest = ap (λ us. variable_in new w ∷ us) (same vs nodes.1)
      by false rest = (λ i. same_variable old new grows v (map (λ d. (axis_called own d).size) v.dims) nodes.0 i ∷ rest i)

-- ---- tests of the program and of the definition

dims_in : (nodes : List Node) (n : List ℕ) (vs : List Variable) → list_any (λ (v : of.Variable). among v.dims n) (map (variable_in nodes) vs) ≡ list_any (λ (v : Variable). among v.dims n) vs
dims_in nodes n [] = refl
dims_in nodes n (v ∷ vs) = ap (λ t. among v.dims n || t) (dims_in nodes n vs)

pub busy_same : (nodes : List Node) (coords : List Coord) (vs : List Variable) (x : Axis) → is_kept coords (map (variable_in nodes) vs) x ≡ is_busy coords vs x
busy_same nodes coords vs x = ap (λ t. (is_some x.labels || list_any (λ (c : Coord). among (axis_names c.axes) x.name) coords) || t) (dims_in nodes x.name vs)

pub busy_axes : (nodes : List Node) (coords : List Coord) (vs : List Variable) (axes : List Axis) → filter (is_kept coords (map (variable_in nodes) vs)) axes ≡ filter (is_busy coords vs) axes
busy_axes nodes coords vs axes = filter_agree (is_kept coords (map (variable_in nodes) vs)) (is_busy coords vs) (busy_same nodes coords vs) axes

filter_both : {X : Type 0} (p : X → Bool) (xs ys : List X) → filter p (xs ++ ys) ≡ filter p xs ++ filter p ys
filter_both p [] ys = refl
filter_both p (x ∷ xs) ys = by (p x) (filter_both p xs ys)
  where
    by : (b : Bool) → filter p (xs ++ ys) ≡ filter p xs ++ filter p ys → cond b (x ∷ filter p (xs ++ ys)) (filter p (xs ++ ys)) ≡ cond b (x ∷ filter p xs) (filter p xs) ++ filter p ys
    by true e = ap (λ r. x ∷ r) e
    by false e = e

coords_same : (axes : List Axis) (own new : List Coord) → all_coords axes own new ≡ coords_with axes own new
coords_same axes own new = filter_both (is_free axes) (map (relabelled axes) own) (filter (λ (c : Coord). not (has_coord own c.name)) new)

-- the dataset without a variable
vars_out : (nodes : List Node) (name : List ℕ) (vs : List Variable) → filter (λ (v : of.Variable). not (bytes_eq v.name name)) (map (variable_in nodes) vs) ≡ map (variable_in nodes) (others name vs)
vars_out nodes name [] = refl
vars_out nodes name (v ∷ vs) = by (not (bytes_eq v.name name)) (vars_out nodes name vs)
  where
    by : (b : Bool) → filter (λ (v : of.Variable). not (bytes_eq v.name name)) (map (variable_in nodes) vs) ≡ map (variable_in nodes) (others name vs)
        → cond b (variable_in nodes v ∷ filter (λ (v : of.Variable). not (bytes_eq v.name name)) (map (variable_in nodes) vs)) (filter (λ (v : of.Variable). not (bytes_eq v.name name)) (map (variable_in nodes) vs)) ≡ map (variable_in nodes) (cond b (v ∷ others name vs) (others name vs))
    by true e = ap (λ ws. variable_in nodes v ∷ ws) e
    by false e = e

abbrev pub rest_of : List Node → List ℕ → Dataset → of.Dataset
rest_of nodes name s = record { axes = rest_axes name s; coords = s.coords; vars = map (variable_in nodes) (others name s.vars); attrs = s.attrs; skipped = s.skipped }

pub rest_is : (nodes : List Node) (name : List ℕ) (s : Dataset) → without_variable name (dataset_in nodes s) ≡ rest_of nodes name s
rest_is nodes name s =
    ap with_vars (vars_out nodes name s.vars) ∙ ap with_axes (busy_axes nodes s.coords (others name s.vars) s.axes)
  where
    with_axes : List Axis → of.Dataset
    with_axes xs = record { axes = xs; coords = s.coords; vars = map (variable_in nodes) (others name s.vars); attrs = s.attrs; skipped = s.skipped }

    with_vars : List of.Variable → of.Dataset
    with_vars vs = record { axes = filter (is_kept s.coords vs) s.axes; coords = s.coords; vars = vs; attrs = s.attrs; skipped = s.skipped }

-- ---- the dataset

pub labelled_among : (axes : List Axis) (n : List ℕ) → among (axis_names (labelled axes)) n ≡ has_index axes n
labelled_among [] n = refl
labelled_among (x ∷ xs) n = by (is_some x.labels) (labelled_among xs n) ∙ ap (λ b. (b && is_some x.labels) || has_index xs n) (bytes_eq_swap n x.name)
  where
    and_true : (b : Bool) → b ≡ (b && true)
    and_true true = refl
    and_true false = refl

    and_false : (b : Bool) → (b && false) ≡ false
    and_false true = refl
    and_false false = refl

    by : (b : Bool) → among (axis_names (labelled xs)) n ≡ has_index xs n → among (axis_names (cond b (x ∷ labelled xs) (labelled xs))) n ≡ ((bytes_eq n x.name && b) || has_index xs n)
    by true rest = (λ i. and_true (bytes_eq n x.name) i || rest i)
    by false rest = rest ∙ ap (λ b. b || has_index xs n) (sym (and_false (bytes_eq n x.name)))

pub index_apart : (axes : List Axis) (coords : List Coord) (vs : List Variable) → AllByRecursion (IsApart axes coords) vs → AreAbsent (axis_names (labelled axes)) (variables.names_of vs)
index_apart axes coords [] all = tt
index_apart axes coords (v ∷ vs) all = (labelled_among axes v.name ∙ all.0.0, index_apart axes coords vs all.1)

pub coords_apart : (axes : List Axis) (coords : List Coord) (vs : List Variable) → AllByRecursion (IsApart axes coords) vs → AreAbsent (names_of coords) (variables.names_of vs)
coords_apart axes coords [] all = tt
coords_apart axes coords (v ∷ vs) all = (sym (coord_among coords v.name) ∙ all.0.1, coords_apart axes coords vs all.1)

pub var_names : (nodes : List Node) (vs : List Variable) → variable_names (map (variable_in nodes) vs) ≡ variables.names_of vs
var_names nodes [] = refl
var_names nodes (v ∷ vs) = ap (λ ns. v.name ∷ ns) (var_names nodes vs)

sizes_there : (axes xs : List Axis) → AllByRecursion (IsThere axes) xs → sizes_called axes (axis_names xs) ≡ shape_over xs
sizes_there axes xs all = sym (sizes_again axes (axis_names xs)) ∙ ap shape_over (the_axes axes xs all)

module _ (old new : List Node) (grows : Grows old new) (s : Dataset) (is : IsDatasetIn old s) (axes : List Axis) (loose : AreLoose axes) (short : AllByRecursion (λ (x : Axis). x.size ≤ most_cells) axes)
    (name : List ℕ) (a b : DataArray) (inside : IsArrayIn new b) (over : b.axes ≡ map (joined_in axes) a.axes) (stay : AllByRecursion (Stays axes) (rest_axes name s)) (among_axes : AllByRecursion (λ (x : Axis). among (axis_names axes) x.name ≡ true) a.axes) (called : is_name name ≡ true) where
  abbrev w : Variable
  w = variable_of name b

  abbrev coords : List Coord
  coords = coords_with axes s.coords b.coords

  abbrev vars : List Variable
  vars = with_variable s.vars w

  abbrev whole : of.Dataset
  whole = record { axes = axes; coords = coords; vars = map (variable_in new) vars; attrs = s.attrs; skipped = s.skipped }

  there : AllByRecursion (IsThere axes) b.axes
  there = subst (AllByRecursion (IsThere axes)) (sym over) (each_map (λ (x : Axis). among (axis_names axes) x.name ≡ true) (IsThere axes) (joined_in axes) a.axes (λ x has. (in_there axes x has).2) among_axes)

  w_formed : IsVariable axes (variable_in new w)
  w_formed = record {
    name = called;
    over = names_there axes b.axes there;
    distinct = inside.formed.axes.distinct;
    attrs = inside.formed.attrs;
    cells = subst (λ t. AreCells t b.kind b.masked (array_in new b).cells) (sym (sizes_there axes b.axes there)) inside.formed.cells;
  }

  w_here : IsVarHere new axes w
  w_here = record { node = subst (λ t. IsNodeOf new b.node t b.kind) (sym (sizes_there axes b.axes there)) inside.node; formed = w_formed }

  -- the dataset without the variable, over the axes that are left
  abbrev left : of.Dataset
  left = record { axes = s.axes; coords = s.coords; vars = map (variable_in old) (others name s.vars); attrs = s.attrs; skipped = s.skipped }

  left_axes : (without_idle left).axes ≡ rest_axes name s
  left_axes = busy_axes old s.coords (others name s.vars) s.axes

  left_formed : AllByRecursion (IsVariable s.axes) left.vars
  left_formed = subst (AllByRecursion (IsVariable s.axes)) (vars_out old name s.vars) (each_left (IsVariable s.axes) (IsVariable s.axes) (λ (v : of.Variable). not (bytes_eq v.name name)) (λ v e one. one) (map (variable_in old) s.vars) is.formed.vars)

  left_nodes : All (λ (v : Variable). IsNodeOf old v.node (sizes_called (rest_axes name s) v.dims) v.kind) (others name s.vars)
  left_nodes = subst (λ xs. All (λ (v : Variable). IsNodeOf old v.node (sizes_called xs v.dims) v.kind) (others name s.vars)) left_axes
      (nodes_left s.axes s.coords left.vars old (others name s.vars) left_formed (vars_have left.vars)
      (All-filter (λ (v : Variable). not (bytes_eq v.name name)) (λ (v : Variable). IsNodeOf old v.node (sizes_called s.axes v.dims) v.kind) s.vars is.nodes_of))

  others_here : AllByRecursion (IsVarHere new axes) (others name s.vars)
  others_here = vars_kept old new grows axes (rest_axes name s) stay (others name s.vars) (recursion_from_All (λ (v : Variable). IsNodeOf old v.node (sizes_called (rest_axes name s) v.dims) v.kind) (others name s.vars) left_nodes)
      (subst (λ xs. AllByRecursion (IsVariable xs) left.vars) left_axes (idle_vars left left_formed))

  own_coords : AllByRecursion (IsCoordinate axes) (map (relabelled axes) s.coords)
  own_coords = each_map (IsCoordinate (rest_axes name s)) (IsCoordinate axes) (relabelled axes) s.coords (own_formed axes (rest_axes name s) stay) (subst (λ xs. AllByRecursion (IsCoordinate xs) s.coords) left_axes (idle_coords left is.formed.coords))

  own_names : are_distinct (names_of s.coords) ≡ true
  own_names = (split (axis_names s.axes) (names_of s.coords) is.formed.coords_distinct).second

  new_names : are_distinct (names_of b.coords) ≡ true
  new_names = (split (axis_names b.axes) (names_of b.coords) inside.formed.distinct).second

  var_distinct : are_distinct (variables.names_of s.vars) ≡ true → are_distinct (variables.names_of vars) ≡ true
  var_distinct d = stay_distinct s.vars w d

  module _ (distinct : are_distinct (variables.names_of s.vars) ≡ true) (apart : AllByRecursion (IsApart axes coords) vars) (few : length coords + length vars ≤ most_variables) where
    all_here : AllByRecursion (IsVarHere new axes) vars
    all_here = put_all (IsVarHere new axes) w w_here s.vars distinct others_here

    frame_distinct : are_distinct (axis_names axes ++ names_of coords) ≡ true
    frame_distinct = join (axis_names axes) (names_of coords) (record { first = loose.distinct; second = coords_distinct axes s.coords b.coords own_names new_names; apart = all_free axes s.coords b.coords own_names new_names })

    names_distinct : are_distinct (axis_names (labelled axes) ++ (names_of coords ++ variable_names (map (variable_in new) vars))) ≡ true
    names_distinct =
        ap (λ ns. are_distinct (axis_names (labelled axes) ++ (names_of coords ++ ns))) (var_names new vars)
        ∙ join (axis_names (labelled axes)) (names_of coords ++ variables.names_of vars) (record {
          first = distinct_left (λ (x : Axis). x.name) (λ (x : Axis). is_some x.labels) axes loose.distinct;
          second = join (names_of coords) (variables.names_of vars) (record { first = coords_distinct axes s.coords b.coords own_names new_names; second = var_distinct distinct; apart = coords_apart axes coords vars apart });
          apart = both_all (λ n. among (axis_names (labelled axes)) n ≡ false) (names_of coords) (variables.names_of vars)
              (each_weaker (λ n. among (axis_names axes) n ≡ false) (λ n. among (axis_names (labelled axes)) n ≡ false) (names_of coords) (λ n. absent_left (λ (x : Axis). x.name) (λ (x : Axis). is_some x.labels) axes n) (all_free axes s.coords b.coords own_names new_names))
              (index_apart axes coords vars apart);
        })

    loose_set : LooseSet whole
    loose_set = record {
      frame = record {
        dims = record { each = dims_of axes loose.each short; distinct = loose.distinct };
        over = both_all (IsCoordinate axes) (filter (is_free axes) (map (relabelled axes) s.coords)) (filter (is_free axes) (filter (λ (c : Coord). not (has_coord s.coords c.name)) b.coords))
            (each_left (IsCoordinate axes) (IsCoordinate axes) (is_free axes) (λ c e one. one) (map (relabelled axes) s.coords) own_coords)
            (each_left (IsCoordinate axes) (IsCoordinate axes) (is_free axes) (λ c e one. one) (filter (λ (c : Coord). not (has_coord s.coords c.name)) b.coords)
            (each_left (IsCoordinate b.axes) (IsCoordinate axes) (λ (c : Coord). not (has_coord s.coords c.name)) (λ c e one. new_formed axes b.axes there c one) b.coords inside.formed.coords));
        distinct = frame_distinct;
      };
      vars = all_formed new axes vars all_here;
      distinct = names_distinct;
      attrs = is.formed.attrs;
      few = subst (λ n. length coords + n ≤ most_variables) (sym (length-map vars (variable_in new))) few;
    }

    set_same : dataset_in new (set_with axes s name b) ≡ without_idle whole
    set_same = ap (λ xs. record { axes = xs; coords = coords; vars = map (variable_in new) vars; attrs = s.attrs; skipped = s.skipped }) (sym (busy_axes new coords vars axes))

    pub set_inside : IsDatasetIn new (set_with axes s name b)
    set_inside = record {
      nodes_of = subst (λ xs. All (λ (v : Variable). IsNodeOf new v.node (sizes_called xs v.dims) v.kind) vars) (busy_axes new coords vars axes)
          (nodes_left axes coords (map (variable_in new) vars) new vars (all_formed new axes vars all_here) (vars_have (map (variable_in new) vars))
          (All-from_recursion (λ (v : Variable). IsNodeOf new v.node (sizes_called axes v.dims) v.kind) vars (all_placed new axes vars all_here)));
      formed = subst IsDataset (sym set_same) (idle_formed whole loose_set);
    }

  -- what the definition says
  pub set_is : dataset_in new (set_with axes s name b) ≡ with_put axes (dataset_in old s) name (array_in new b)
  set_is =
      ap (λ xs. record { axes = xs; coords = coords; vars = map (variable_in new) vars; attrs = s.attrs; skipped = s.skipped }) (sym (busy_axes new coords vars axes))
      ∙ (λ i. made (sym (coords_same axes s.coords b.coords) i) (put_is old new grows s.axes w s.vars (recursion_from_All (λ (v : Variable). IsNodeOf old v.node (sizes_called s.axes v.dims) v.kind) s.vars is.nodes_of) i))
    where
      made : List Coord → List of.Variable → of.Dataset
      made cs vs = without_idle (record { axes = axes; coords = cs; vars = vs; attrs = s.attrs; skipped = s.skipped })

-- the array over the joined axes
pub value_axes : (old new : List Node) (axes : List Axis) (a b : DataArray) → IsArrayAfter old new axes None a b → b.axes ≡ map (joined_in axes) a.axes
unfolding fitted
value_axes old new axes a b after = ap (λ (x : of.DataArray). x.axes) after.is

-- the names of variables differ
pub set_distinct : (nodes : List Node) (s : Dataset) → IsDatasetIn nodes s → are_distinct (variables.names_of s.vars) ≡ true
set_distinct nodes s is =
    let outer = split (axis_names (labelled s.axes)) (names_of s.coords ++ variable_names (map (variable_in nodes) s.vars)) is.formed.vars_distinct in
    ap are_distinct (sym (var_names nodes s.vars)) ∙ (split (names_of s.coords) (variable_names (map (variable_in nodes) s.vars)) outer.second).second
