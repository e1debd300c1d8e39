-- Datasets without the variables of chars, and what is made of their reduction.
use Rattle.std.proofs.Common.{◌*◌, ◌≡◌, ◌≤◌, ◌||◌, ◌++◌, ℕ, suc, Bool, true, false, not, cond, List, [], ◌∷◌, map, filter, is_some, All, Result, Ok, Err, refl, sym, ap, subst, ◌∙◌, arith}
use Rattle.std.specs.List.{AllByRecursion, list_any}
use Rattle.std.proofs.lemmas.List.{length-map}
use Rattle.xr_types.specs.Names.{among, are_distinct, axis_names}
use Rattle.xr_types.specs.Results.{◌>>=◌, all_of, unless}
use Rattle.xr_types.specs.Points.{size}
use Rattle.xr_types.specs.declared.axis.Axis.{Axis}
use Rattle.xr_types.specs.declared.fault.Fault.{Fault}
use Rattle.xr_types.specs.declared.operation.FoldKind.{FoldKind}
use Rattle.xr_arrays.specs.declared.node.Node.{Node}
use Rattle.xr_arrays.specs.Nodes.{is_positional}
use Rattle.xr_defs.specs.Building.{is_chars}
use Rattle.xr_defs.specs.declared.value.Coord.{Coord}
use Rattle.xr_defs.specs.Decoding.{is_kept}
use Rattle.xr_defs.specs.Meanings.{Given}
use Rattle.xr_defs.specs.Parts.{without_idle}
use Rattle.xr_defs.specs.Room.{span}
use Rattle.xr_defs.specs.Values as of
use Rattle.xr_defs.specs.Values.{without_fills}
use Rattle.xr_defs.specs.WellFormed.{labelled, names_of, variable_names, IsDataset, IsVariable}
use Rattle.xr_values.specs.declared.dataset.Dataset.{Dataset}
use Rattle.xr_values.specs.declared.variable.Variable.{Variable}
use Rattle.xr_values.specs.Stands.{dataset_in, variable_in, IsDatasetIn, IsNodeOf}
use Rattle.xr_operations.specs.Reductions.{axes_left, check_size, check_variable, check_variable_size, coords_left, dims_given, is_emptied, names_left, reduced_of, reduced_set, set_over, size_called, variable_over, variable_reduced, without_chars}
use Rattle.xr_parts.proofs.Words.{absent_left, distinct_left, each_left, each_named_left, each_weaker, join, split}
use Rattle.xr_reducing.specs.declared.chars.Frame.{Frame}
use Rattle.xr_reducing.specs.declared.realized.SetMade.{SetMade}
use Rattle.xr_reducing.specs.declared.realized.VarMade.{VarMade}
use Rattle.xr_reducing.specs.Reduced.{charless, chars_out, check_each, check_each_size, check_over, framed_in, is_busy, is_made_busy, set_made, var_made, IsFrameIn}
use Rattle.xr_reducing.specs.Sets.{set_made_in, var_made_in, IsFitWithin, IsSetFew}
use Rattle.xr_parts.proofs.Idle.{has_axis, has_dim, idle_formed, labelled_left, left, sizes_left, vars_have, IsLoose}
use Rattle.xr_reducing.proofs.OneVariable.{var_makes, within_span, IsVarReduced}
use Rattle.xr_reducing.proofs.Placing.{fits_within}
use Rattle.xr_reducing.proofs.Reduced.{attrs_left, cells_passed, size_passed}
use Rattle.xr_reducing.proofs.Staying.{fewer, frame_left}

-- ---- lists

each_of : {X : Type 0} (P : X → Type 0) (xs : List X) → All P xs → AllByRecursion P xs
each_of P [] all = tt
each_of P (x ∷ xs) all = (all 0 x (omega arith), each_of P xs (λ i y lt. all (suc i) y (omega arith)))

same_filter : (p q : Axis → Bool) → ((x : Axis) → p x ≡ q x) → (xs : List Axis) → filter p xs ≡ filter q xs
same_filter p q same [] = refl
same_filter p q same (x ∷ xs) = ap (λ b. cond b (x ∷ filter p xs) (filter p xs)) (same x) ∙ ap (λ ys. cond (q x) (x ∷ ys) ys) (same_filter p q same xs)

-- names of which none is in a list
module _ (ns : List (List ℕ)) where
  abbrev Lacks : List ℕ → Type 0
  Lacks n = among ns n ≡ false

  each_first : (xs ys : List (List ℕ)) → AllByRecursion (λ n. among ns n ≡ false) (xs ++ ys) → AllByRecursion (λ n. among ns n ≡ false) xs × AllByRecursion (λ n. among ns n ≡ false) ys
  each_first [] ys all = (tt, all)
  each_first (x ∷ xs) ys all = let rest = each_first xs ys all.1 in ((all.0, rest.0), rest.1)

  each_both : (xs ys : List (List ℕ)) → AllByRecursion (λ n. among ns n ≡ false) xs → AllByRecursion (λ n. among ns n ≡ false) ys → AllByRecursion (λ n. among ns n ≡ false) (xs ++ ys)
  each_both [] ys a b = b
  each_both (x ∷ xs) ys a b = (a.0, each_both xs ys a.1 b)

-- ---- names of labelled axes, coordinates and variables stay apart where some go

module _ (axes : List Axis) (coords : List Coord) (vars ws : List of.Variable) (p : Axis → Bool) (q : Coord → Bool) (distinct : are_distinct (axis_names (labelled axes) ++ (names_of coords ++ variable_names vars)) ≡ true) (own : are_distinct (axis_names axes) ≡ true)
    (named : are_distinct (variable_names vars) ≡ true → are_distinct (variable_names ws) ≡ true) (of_vars : (P : List ℕ → Type 0) → AllByRecursion P (variable_names vars) → AllByRecursion P (variable_names ws)) where
  still_apart : are_distinct (axis_names (labelled (filter p axes)) ++ (names_of (filter q coords) ++ variable_names ws)) ≡ true
  still_apart =
      let both = split (axis_names (labelled axes)) (names_of coords ++ variable_names vars) distinct in
      let inner = split (names_of coords) (variable_names vars) both.second in
      let parts = each_first (axis_names (labelled axes)) (names_of coords) (variable_names vars) both.apart in
      join (axis_names (labelled (filter p axes))) (names_of (filter q coords) ++ variable_names ws) (record {
        first = distinct_left (λ (x : Axis). x.name) (λ (x : Axis). is_some x.labels) (filter p axes) (distinct_left (λ (x : Axis). x.name) p axes own);
        second = join (names_of (filter q coords)) (variable_names ws) (record {
          first = distinct_left (λ (c : Coord). c.name) q coords inner.first;
          second = named inner.second;
          apart = of_vars (λ n. among (names_of (filter q coords)) n ≡ false) (each_weaker (λ n. among (names_of coords) n ≡ false) (λ n. among (names_of (filter q coords)) n ≡ false) (variable_names vars) (λ n. absent_left (λ (c : Coord). c.name) q coords n) inner.apart);
        });
        apart = each_weaker (λ n. among (axis_names (labelled axes)) n ≡ false) (λ n. among (axis_names (labelled (filter p axes))) n ≡ false) (names_of (filter q coords) ++ variable_names ws) (λ n. labelled_left p axes n)
            (each_both (axis_names (labelled axes)) (names_of (filter q coords)) (variable_names ws) (each_named_left (λ (c : Coord). c.name) q (λ n. among (axis_names (labelled axes)) n ≡ false) coords parts.0) (of_vars (λ n. among (axis_names (labelled axes)) n ≡ false) parts.1));
      })

all_pass : {X : Type 0} (xs : List X) → filter (λ x. true) xs ≡ xs
all_pass [] = refl
all_pass (x ∷ xs) = ap (λ ys. x ∷ ys) (all_pass xs)

-- ---- without the variables of chars

module _ (nodes : List Node) (s : Dataset) (is : IsDatasetIn nodes s) where
  abbrev d : of.Dataset
  d = dataset_in nodes s

  abbrev stays : of.Variable → Bool
  stays v = not (is_chars v.kind)

  abbrev few_vars : List of.Variable
  few_vars = filter (λ (v : of.Variable). not (is_chars v.kind)) d.vars

  vars_in : (vs : List Variable) → filter (λ (v : of.Variable). not (is_chars v.kind)) (map (variable_in nodes) vs) ≡ map (variable_in nodes) (chars_out vs)
  vars_in [] = refl
  vars_in (v ∷ vs) = by (not (is_chars v.kind)) (vars_in vs)
    where
      by : (b : Bool) → filter (λ (v : of.Variable). not (is_chars v.kind)) (map (variable_in nodes) vs) ≡ map (variable_in nodes) (chars_out vs)
          → cond b (variable_in nodes v ∷ filter (λ (v : of.Variable). not (is_chars v.kind)) (map (variable_in nodes) vs)) (filter (λ (v : of.Variable). not (is_chars v.kind)) (map (variable_in nodes) vs)) ≡ map (variable_in nodes) (cond b (v ∷ chars_out vs) (chars_out vs))
      by true e = ap (λ ws. variable_in nodes v ∷ ws) e
      by false e = e

  dims_in : (n : List ℕ) (vs : List Variable) → list_any (has_dim n) (map (variable_in nodes) vs) ≡ list_any (λ (v : Variable). among v.dims n) vs
  dims_in n [] = refl
  dims_in n (v ∷ vs) = ap (λ t. among v.dims n || t) (dims_in n vs)

  busy_same : (vs : List Variable) (x : Axis) → is_kept s.coords (map (variable_in nodes) vs) x ≡ is_busy s.coords vs x
  busy_same vs x = ap (λ t. (is_some x.labels || list_any (has_axis x.name) s.coords) || t) (dims_in x.name vs)

  pub charless_is : framed_in nodes s (charless s) ≡ without_chars d
  charless_is =
      sym (ap with_axes (same_filter (is_kept s.coords (map (variable_in nodes) (chars_out s.vars))) (is_busy s.coords (chars_out s.vars)) (busy_same (chars_out s.vars)) s.axes)) ∙ sym (ap with_vars (vars_in s.vars))
    where
      with_axes : List Axis → of.Dataset
      with_axes xs = record { axes = xs; coords = s.coords; vars = map (variable_in nodes) (chars_out s.vars); attrs = s.attrs; skipped = s.skipped }

      with_vars : List of.Variable → of.Dataset
      with_vars vs = record { axes = filter (is_kept s.coords vs) s.axes; coords = s.coords; vars = vs; attrs = s.attrs; skipped = s.skipped }

  abbrev loose : of.Dataset
  loose = record d { vars = few_vars }

  is_loose : IsLoose loose
  is_loose = record {
    frame = record { dims = is.formed.axes; over = is.formed.coords; distinct = is.formed.coords_distinct };
    vars = each_left (IsVariable s.axes) (IsVariable s.axes) stays (λ v e one. one) d.vars is.formed.vars;
    distinct =
        ap (λ xs. are_distinct (axis_names (labelled xs) ++ (names_of s.coords ++ variable_names few_vars))) (sym (all_pass s.axes))
        ∙ ap (λ cs. are_distinct (axis_names (labelled (filter (λ x. true) s.axes)) ++ (names_of cs ++ variable_names few_vars))) (sym (all_pass s.coords))
        ∙ still_apart s.axes s.coords d.vars few_vars (λ x. true) (λ c. true) is.formed.vars_distinct is.formed.axes.distinct (distinct_left (λ (v : of.Variable). v.name) stays d.vars) (λ P. each_named_left (λ (v : of.Variable). v.name) stays P d.vars);
    attrs = is.formed.attrs;
    few = let less = fewer stays d.vars in let most = is.formed.few in omega (arith, less, most);
  }

  formed : IsDataset (without_chars d)
  formed = idle_formed loose is_loose

  abbrev new_axes : List Axis
  new_axes = left s.axes s.coords few_vars

  each_node : (vs : List Variable) → AllByRecursion (λ (v : Variable). IsNodeOf nodes v.node (map (size_called s.axes) v.dims) v.kind) vs → AllByRecursion (IsVariable s.axes) (map (variable_in nodes) vs)
      → AllByRecursion (λ (v : of.Variable). AllByRecursion (λ n. list_any (has_dim n) few_vars ≡ true) v.dims) (map (variable_in nodes) (chars_out vs)) → AllByRecursion (λ (v : Variable). IsNodeOf nodes v.node (map (size_called new_axes) v.dims) v.kind) (chars_out vs)
  each_node [] ns fs have = tt
  each_node (v ∷ vs) ns fs have = by (not (is_chars v.kind)) have (each_node vs ns.1 fs.1)
    where
      Have : of.Variable → Type 0
      Have v = AllByRecursion (λ n. list_any (has_dim n) few_vars ≡ true) v.dims

      Held : Variable → Type 0
      Held v = IsNodeOf nodes v.node (map (size_called new_axes) v.dims) v.kind

      by : (b : Bool) → AllByRecursion Have (map (variable_in nodes) (cond b (v ∷ chars_out vs) (chars_out vs))) → (AllByRecursion Have (map (variable_in nodes) (chars_out vs)) → AllByRecursion Held (chars_out vs)) → AllByRecursion Held (cond b (v ∷ chars_out vs) (chars_out vs))
      by true all more = (subst (λ t. IsNodeOf nodes v.node t v.kind) (sym (sizes_left s.axes s.coords few_vars v.dims fs.0.over all.0)) ns.0, more all.1)
      by false all more = more all

  pub charless_in : IsFrameIn nodes s (charless s)
  charless_in =
      let have = subst (AllByRecursion (λ (v : of.Variable). AllByRecursion (λ n. list_any (has_dim n) few_vars ≡ true) v.dims)) (vars_in s.vars) (vars_have few_vars) in
      let held = each_node s.vars (each_of (λ (v : Variable). IsNodeOf nodes v.node (map (size_called s.axes) v.dims) v.kind) s.vars is.nodes_of) is.formed.vars have in
      record {
        nodes_of = subst (λ (e : of.Dataset). AllByRecursion (λ (v : Variable). IsNodeOf nodes v.node (map (size_called e.axes) v.dims) v.kind) (chars_out s.vars)) (sym charless_is) held;
        formed = subst IsDataset (sym charless_is) formed;
      }

-- ---- the variables that are made

both_ok : {X : Type 0} (check : X → Result (Unit {0}) Fault) (x : X) (xs : List X) → all_of check (x ∷ xs) ≡ Ok tt → (check x ≡ Ok tt) × (all_of check xs ≡ Ok tt)
both_ok check x xs e = by (check x) e
  where
    by : (r : Result (Unit {0}) Fault) → (r >>= λ u. all_of check xs) ≡ Ok tt → (r ≡ Ok tt) × (all_of check xs ≡ Ok tt)
    by (Ok u) e = (refl, e)
    by (Err f) e = absurd cc

module _ (nodes : List Node) (k : FoldKind) (names : List (List ℕ)) (s : Dataset) (f : Frame) (plain : is_positional k ≡ false) (is : IsFrameIn nodes s f) (full : check_each k names f.axes f.vars ≡ Ok tt) (few : check_each_size names f.axes f.vars ≡ Ok tt) where
  abbrev after : List Axis
  after = axes_left names f.axes

  abbrev reduced_in : Variable → of.Variable
  reduced_in v = variable_reduced k names f.axes (variable_in nodes v)

  abbrev Makes : Variable → Type 0
  Makes v = IsVarReduced nodes after (reduced_in v) (var_made k names v)

  each_made : (vs : List Variable) → AllByRecursion (λ (v : Variable). IsNodeOf nodes v.node (map (size_called f.axes) v.dims) v.kind) vs → AllByRecursion (IsVariable f.axes) (map (variable_in nodes) vs)
      → check_each k names f.axes vs ≡ Ok tt → check_each_size names f.axes vs ≡ Ok tt → AllByRecursion Makes vs
  unfolding check_over
  each_made [] ns fs cells sizes = tt
  each_made (v ∷ vs) ns fs cells sizes =
      let some = both_ok (λ (v : Variable). check_over k names f.axes v.dims) v vs cells in
      let size = both_ok (λ (v : Variable). check_size (map (size_called f.axes) (names_left names v.dims))) v vs sizes in (
        var_makes nodes k names f.axes v plain ns.0 fs.0 (cells_passed k (list_any (λ d. is_emptied names d (size_called f.axes d)) v.dims) some.0) (size_passed (map (size_called f.axes) (names_left names v.dims)) size.0),
        each_made vs ns.1 fs.1 some.1 size.1,
      )

  made : AllByRecursion Makes f.vars
  made = each_made f.vars is.nodes_of is.formed.vars full few

  abbrev new_vars : List of.Variable
  new_vars = map (variable_reduced k names f.axes) (map (variable_in nodes) f.vars)

  are : (vs : List Variable) → AllByRecursion Makes vs → map (var_made_in nodes) (map (var_made k names) vs) ≡ map (variable_reduced k names f.axes) (map (variable_in nodes) vs)
  are [] all = refl
  are (v ∷ vs) all = ap (λ w. w ∷ map (var_made_in nodes) (map (var_made k names) vs)) all.0.is ∙ ap (λ ws. reduced_in v ∷ ws) (are vs all.1)

  over_all : (vs : List Variable) → AllByRecursion Makes vs → AllByRecursion (IsVariable after) (map (variable_reduced k names f.axes) (map (variable_in nodes) vs))
  over_all [] all = tt
  over_all (v ∷ vs) all = (all.0.formed, over_all vs all.1)

  one_name : (v : of.Variable) → (variable_reduced k names f.axes v).name ≡ v.name
  one_name v = by (list_any (among names) v.dims)
    where
      by : (b : Bool) → (cond b (variable_over k names f.axes v) v).name ≡ v.name
      by true = refl
      by false = refl

  same_names : (vs : List of.Variable) → variable_names (map (variable_reduced k names f.axes) vs) ≡ variable_names vs
  same_names [] = refl
  same_names (v ∷ vs) = ap (λ n. n ∷ variable_names (map (variable_reduced k names f.axes) vs)) (one_name v) ∙ ap (λ ns. v.name ∷ ns) (same_names vs)

  abbrev new_coords : List Coord
  new_coords = coords_left names s.coords

  abbrev loose_left : of.Dataset
  loose_left = record { axes = after; coords = new_coords; vars = new_vars; attrs = without_fills s.attrs; skipped = s.skipped }

  left_loose : IsLoose loose_left
  left_loose =
      let vars = map (variable_in nodes) f.vars in
      let same = same_names vars in
      record {
        frame = frame_left names f.axes s.coords (record { dims = is.formed.axes; over = is.formed.coords; distinct = is.formed.coords_distinct });
        vars = over_all f.vars made;
        distinct = still_apart f.axes s.coords vars new_vars (λ (x : Axis). not (among names x.name)) (λ (c : Coord). not (list_any (among names) (axis_names c.axes))) is.formed.vars_distinct is.formed.axes.distinct
            (λ e. ap are_distinct same ∙ e) (λ P all. subst (AllByRecursion P) (sym same) all);
        attrs = attrs_left s.attrs is.formed.attrs;
        few =
            let less = fewer (λ (c : Coord). not (list_any (among names) (axis_names c.axes))) s.coords in
            let count = length-map vars (variable_reduced k names f.axes) in
            let most = is.formed.few in
            omega (arith, less, count, most);
      }

  left_formed : IsDataset (without_idle loose_left)
  left_formed = idle_formed loose_left left_loose

  -- ---- as it is made

  abbrev mades : List VarMade
  mades = map (var_made k names) f.vars

  dims_made : (n : List ℕ) (ms : List VarMade) → list_any (has_dim n) (map (var_made_in nodes) ms) ≡ list_any (λ (m : VarMade). among m.dims n) ms
  dims_made n [] = refl
  dims_made n (m ∷ ms) = ap (λ t. among m.dims n || t) (dims_made n ms)

  busy_made : (x : Axis) → is_kept new_coords (map (var_made_in nodes) mades) x ≡ is_made_busy new_coords mades x
  busy_made x = ap (λ t. (is_some x.labels || list_any (has_axis x.name) new_coords) || t) (dims_made x.name mades)

  abbrev final : List Axis
  final = filter (is_made_busy new_coords mades) after

  final_is : final ≡ left after new_coords new_vars
  final_is = sym (same_filter (is_kept new_coords (map (var_made_in nodes) mades)) (is_made_busy new_coords mades) busy_made after) ∙ ap (λ vs. filter (is_kept new_coords vs) after) (are f.vars made)

  pub set_is : set_made_in nodes (set_made k names s f) ≡ set_over k names (framed_in nodes s f)
  unfolding set_over
  set_is = ap (λ xs. with_both xs (map (var_made_in nodes) mades)) final_is ∙ ap (with_both (left after new_coords new_vars)) (are f.vars made)
    where
      with_both : List Axis → List of.Variable → of.Dataset
      with_both xs vs = record { axes = xs; coords = new_coords; vars = vs; attrs = without_fills s.attrs; skipped = s.skipped }

  abbrev kept_axes : List Axis
  kept_axes = left after new_coords new_vars

  one_fit : (v : Variable) → Makes v → AllByRecursion (λ n. list_any (has_dim n) new_vars ≡ true) (reduced_in v).dims → IsVariable kept_axes (reduced_in v) → IsFitWithin nodes kept_axes (256 * span kept_axes) (var_made k names v)
  one_fit v m have var =
      let dims : (var_made k names v).dims ≡ (reduced_in v).dims = ap (λ (w : of.Variable). w.dims) m.is in
      let sizes : map (size_called kept_axes) (var_made k names v).dims ≡ map (size_called after) (var_made k names v).dims =
      subst (λ ds. map (size_called kept_axes) ds ≡ map (size_called after) ds) (sym dims) (sizes_left after new_coords new_vars (reduced_in v).dims m.formed.over have) in
      let most = subst (λ ds. size (map (size_called kept_axes) ds) ≤ span kept_axes) (sym dims) (within_span kept_axes (reduced_in v).dims var.over var.distinct) in
      let count = ap size sizes in
      let cells = m.cells in
      (record { fits = m.fits; shape = m.shape ∙ sym sizes; kind = m.kind }, omega (arith, most, count, cells))

  all_fit : (vs : List Variable) → AllByRecursion Makes vs → AllByRecursion (λ (v : of.Variable). AllByRecursion (λ n. list_any (has_dim n) new_vars ≡ true) v.dims) (map (variable_reduced k names f.axes) (map (variable_in nodes) vs))
      → AllByRecursion (IsVariable kept_axes) (map (variable_reduced k names f.axes) (map (variable_in nodes) vs)) → AllByRecursion (IsFitWithin nodes kept_axes (256 * span kept_axes)) (map (var_made k names) vs)
  all_fit [] ms have vars = tt
  all_fit (v ∷ vs) ms have vars = (one_fit v ms.0 have.0 vars.0, all_fit vs ms.1 have.1 vars.1)

  pub set_fits : IsSetFew nodes (set_made k names s f)
  unfolding set_over
  set_fits =
      let fit = subst (λ xs. AllByRecursion (IsFitWithin nodes xs (256 * span xs)) mades) (sym final_is) (all_fit f.vars made (vars_have new_vars) left_formed.vars) in
      let both = fits_within nodes final (256 * span final) mades fit in
      (record { vars = both.0; formed = subst IsDataset (sym set_is) left_formed }, both.1)

-- ---- the answer of the call

pub checks_in : (nodes : List Node) (k : FoldKind) (names : List (List ℕ)) (axes : List Axis) (vs : List Variable) → all_of (check_variable k names axes) (map (variable_in nodes) vs) ≡ check_each k names axes vs
unfolding check_over
checks_in nodes k names axes [] = refl
checks_in nodes k names axes (v ∷ vs) = ap (λ (r : Result (Unit {0}) Fault). check_variable k names axes (variable_in nodes v) >>= λ u. r) (checks_in nodes k names axes vs)

pub sizes_in : (nodes : List Node) (names : List (List ℕ)) (axes : List Axis) (vs : List Variable) → all_of (check_variable_size names axes) (map (variable_in nodes) vs) ≡ check_each_size names axes vs
sizes_in nodes names axes [] = refl
sizes_in nodes names axes (v ∷ vs) = ap (λ (r : Result (Unit {0}) Fault). check_variable_size names axes (variable_in nodes v) >>= λ u. r) (sizes_in nodes names axes vs)

pub set_begins : (nodes : List Node) (k : FoldKind) (s : Dataset) (g : Given) (f : Frame) → IsDatasetIn nodes s → is_positional k ≡ false → f ≡ charless s → reduced_set k (dataset_in nodes s) g ≡ reduced_of k (framed_in nodes s f) g
unfolding reduced_set unless
set_begins nodes k s g f is plain e = rw (plain) (sym (ap (λ (h : Frame). reduced_of k (framed_in nodes s h) g) e ∙ ap (λ d. reduced_of k d g) (charless_is nodes s is)))

pub begun_in : (nodes : List Node) (s : Dataset) (f : Frame) → IsDatasetIn nodes s → f ≡ charless s → IsFrameIn nodes s f
begun_in nodes s f is e = subst (IsFrameIn nodes s) (sym e) (charless_in nodes s is)

told : (nodes : List Node) (k : FoldKind) (s : Dataset) (f : Frame) (g : Given) (names : List (List ℕ)) (m : SetMade) → is_positional k ≡ false → IsFrameIn nodes s f → dims_given (axis_names f.axes) g ≡ Ok names → check_each k names f.axes f.vars ≡ Ok tt → check_each_size names f.axes f.vars ≡ Ok tt
    → m ≡ set_made k names s f → (reduced_of k (framed_in nodes s f) g ≡ Ok (set_made_in nodes m)) × IsSetFew nodes m
unfolding reduced_of
told nodes k s f g names m plain is dims full few em =
    let some = checks_in nodes k names f.axes f.vars ∙ full in
    let sizes = sizes_in nodes names f.axes f.vars ∙ few in
    let answer : reduced_of k (framed_in nodes s f) g ≡ Ok (set_over k names (framed_in nodes s f)) = rw (dims, some, sizes) refl in
    (answer ∙ ap Ok (sym (ap (set_made_in nodes) em ∙ set_is nodes k names s f plain is full few)), subst (IsSetFew nodes) (sym em) (set_fits nodes k names s f plain is full few))

pub frame_answered : (nodes : List Node) (k : FoldKind) (s : Dataset) (f : Frame) (g : Given) (axes : List Axis) (vars : List Variable) (named names : List (List ℕ)) (m : SetMade) → IsFrameIn nodes s f → is_positional k ≡ false → axes ≡ f.axes → vars ≡ f.vars
    → dims_given (axis_names axes) g ≡ Ok named → names ≡ named → check_each k names axes vars ≡ Ok tt → check_each_size names axes vars ≡ Ok tt → m ≡ set_made k names s f → (reduced_of k (framed_in nodes s f) g ≡ Ok (set_made_in nodes m)) × IsSetFew nodes m
frame_answered nodes k s f g axes vars named names m is plain eaxes evars dims same full few em =
    told nodes k s f g names m plain is (subst (λ (xs : List Axis). dims_given (axis_names xs) g ≡ Ok names) eaxes (dims ∙ ap Ok (sym same)))
    (subst (λ vs. check_each k names f.axes vs ≡ Ok tt) evars (subst (λ xs. check_each k names xs vars ≡ Ok tt) eaxes full)) (subst (λ vs. check_each_size names f.axes vs ≡ Ok tt) evars (subst (λ xs. check_each_size names xs vars ≡ Ok tt) eaxes few)) em
