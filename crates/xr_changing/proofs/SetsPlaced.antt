-- Datasets of a plan at new labels.
use Rattle.xr_changing.proofs.Common.{AddsAtMost, AllByRecursion, AreIndexed, AreThere, Array, Axis, Bool, Change, Coord, CoordFits, Dataset, IsDataset, IsDatasetIn, IsNodeOf, IsSetChanged, IsVariable, List, Node, Ok, Option, StepsFit, TooLarge, VarFits, Variable, [], adds_up, among, and_parts, any_mapped, ap, are_distinct, are_few, are_vars_within, are_within, arith, axis_names, changed_coord, changed_set, changed_variable, check_set, cond, dataset_in, false, is_some, is_within, labelled, leb-true, length, length-map, list_all, list_all-map, list_any, map, map-map, masked_along, most_cells, most_variables, names_of, nat_le, new_axis, passed, recursion_from_All, refl, sizes_named, span, steps_along, steps_cells, steps_value, subst, sym, true, value, var_made, variable_array, variable_in, variable_names, ℕ, ℤ, ◌*◌, ◌++◌, ◌+◌, ◌||◌, ◌∙◌, ◌∷◌, ◌≡◌, ◌≤◌}
use Rattle.xr_defs.specs.Decoding.{is_kept}
use Rattle.xr_defs.specs.Values as of
use Rattle.xr_reducing.specs.declared.realized.SetMade.{SetMade}
use Rattle.xr_reducing.specs.Sets.{set_made_in, var_made_in, vars_cells, IsFitWithin, IsSetMade, IsSetOf, IsVarFit}
use Rattle.xr_reducing.proofs.Placing.{fits_within}
use Rattle.xr_changing.proofs.Formed.{changed_named, coord_names, coords_formed, new_dims}
use Rattle.xr_changing.proofs.NewAxes.{index_kept, name_kept, names_kept}

-- ---- variables

module _ (nodes : List Node) (cs : List Change) (fill : Option ℤ) (axes : List Axis) where
  abbrev news : List Axis
  news = map (new_axis cs) axes

  abbrev changed : of.Variable → of.Variable
  changed = changed_variable cs fill axes

  record AreDone (vs : List Variable) : Type 0 where
    is : map (var_made_in nodes) (map (var_made cs fill) vs) ≡ map changed (map (variable_in nodes) vs)
    fit : AllByRecursion (IsFitWithin nodes news (16 * span (axes ++ news))) (map (var_made cs fill) vs)
    formed : AllByRecursion (IsVariable news) (map changed (map (variable_in nodes) vs))

  all_done : (vs : List Variable) → AllByRecursion (λ (v : Variable). IsNodeOf nodes v.node (sizes_named axes v.dims) v.kind) vs → AllByRecursion (IsVariable axes) (map (variable_in nodes) vs) → AllByRecursion (VarFits cs fill axes) vs
      → are_vars_within news (map changed (map (variable_in nodes) vs)) ≡ true → AreDone vs
  all_done [] ns fs ts inside = record { is = refl; fit = tt; formed = tt }
  all_done (v ∷ vs) ns fs ts inside =
      let parts = and_parts (is_within (sizes_named news v.dims)) (are_vars_within news (map changed (map (variable_in nodes) vs))) inside in
      let rest = all_done vs ns.1 fs.1 ts.1 parts.1 in
      let node = ns.0 in
      let var = fs.0 in
      let w = variable_in nodes v in
      let ss = steps_along cs fill v.dims in
      let most = 16 * span (axes ++ news) in
      let own : value nodes v.node ≡ variable_array axes w = λ i. record { kind = node.has_kind i; shape = node.has_shape i; cells = w.cells } in
      let to = changed_named cs fill axes v.dims v.masked (variable_array axes w) var.over var.distinct refl var.cells ts.0 in
      let all = ap (steps_value ss) own ∙ to.value in
      let fit = subst (λ a. StepsFit ss a × (steps_cells ss a ≤ most)) (sym own) (to.fits, to.few) in
      let few = fit.1 in
      record {
        is = λ i. record w { masked = masked_along cs v.dims fill v.masked; cells = (all i).cells } ∷ rest.is i;
        fit = ((record { fits = record { start = node.placed; steps = fit.0 }; shape = ap (λ (w : Array). w.shape) all ∙ to.shape; kind = ap (λ (w : Array). w.kind) all ∙ to.kind }, omega (arith, few)), rest.fit);
        formed = (record { name = var.name; over = subst (λ ns. AreThere ns v.dims) (sym (names_kept cs axes)) var.over; distinct = var.distinct; attrs = var.attrs; cells = to.cells parts.0 }, rest.formed);
      }

  -- ---- an axis is kept where it was

  kept_same : (coords : List Coord) (vs : List of.Variable) (x : Axis) → is_kept (map (changed_coord cs fill) coords) (map changed vs) (new_axis cs x) ≡ is_kept coords vs x
  kept_same coords vs x =
      (λ i. index_kept cs x i || any_mapped (λ (c : Coord). among (axis_names c.axes) (name_kept cs x i)) (changed_coord cs fill) coords i || any_mapped (λ (v : of.Variable). among v.dims (name_kept cs x i)) changed vs i)
      ∙ (λ i. is_some x.labels || list_any (λ (c : Coord). among (names_kept cs c.axes i) x.name) coords || list_any (λ (v : of.Variable). among v.dims x.name) vs)

  all_kept : (coords : List Coord) (vs : List of.Variable) (xs : List Axis) → list_all (is_kept (map (changed_coord cs fill) coords) (map changed vs)) (map (new_axis cs) xs) ≡ list_all (is_kept coords vs) xs
  all_kept coords vs xs = list_all-map (is_kept (map (changed_coord cs fill) coords) (map changed vs)) (new_axis cs) xs ∙ (λ i. list_all (λ x. kept_same coords vs x i) xs)

pub labelled_same : (cs : List Change) (xs : List Axis) → axis_names (labelled (map (new_axis cs) xs)) ≡ axis_names (labelled xs)
labelled_same cs [] = refl
labelled_same cs (x ∷ xs) =
    ap (λ b. axis_names (cond b (new_axis cs x ∷ labelled (map (new_axis cs) xs)) (labelled (map (new_axis cs) xs)))) (index_kept cs x) ∙ by (is_some x.labels) (labelled_same cs xs)
  where
    by : (b : Bool) → axis_names (labelled (map (new_axis cs) xs)) ≡ axis_names (labelled xs) → axis_names (cond b (new_axis cs x ∷ labelled (map (new_axis cs) xs)) (labelled (map (new_axis cs) xs))) ≡ axis_names (cond b (x ∷ labelled xs) (labelled xs))
    by true rest = λ i. name_kept cs x i ∷ rest i
    by false rest = rest

-- ---- a dataset

pub record SetFits (cs : List Change) (fill : Option ℤ) (s : Dataset) : Type 0 where
  pub indexed : AreIndexed cs s.axes
  pub coords : AllByRecursion (CoordFits cs fill) s.coords
  pub vars : AllByRecursion (VarFits cs fill s.axes) s.vars

module _ (old : List Node) (cs : List Change) (fill : Option ℤ) (s : Dataset) (is : IsDatasetIn old s) (fits : SetFits cs fill s) (check : check_set (changed_set cs fill (dataset_in old s)) ≡ Ok tt) where
  abbrev whole : of.Dataset
  whole = dataset_in old s

  abbrev means : of.Dataset
  means = changed_set cs fill whole

  limits : (list_all (λ (x : Axis). nat_le x.size most_cells) means.axes ≡ true) × (are_within means.coords ≡ true) × (are_vars_within means.axes means.vars ≡ true) × (are_few means ≡ true)
  unfolding check_set
  limits =
      let all = and_parts _ _ (passed _ TooLarge check) in
      let rest = and_parts _ _ all.1 in
      let last = and_parts _ _ rest.1 in
      (all.0, rest.0, last.0, last.1)

  done : AreDone old cs fill s.axes s.vars
  done = all_done old cs fill s.axes s.vars (recursion_from_All (λ (v : Variable). IsNodeOf old v.node (sizes_named s.axes v.dims) v.kind) s.vars is.nodes_of) is.formed.vars fits.vars limits.2

  formed : IsDataset means
  formed = record {
    axes = record { each = new_dims cs s.axes is.formed.axes.each fits.indexed (list_all-map (λ n. nat_le n most_cells) (λ (x : Axis). x.size) means.axes ∙ limits.0); distinct = ap are_distinct (names_kept cs s.axes) ∙ is.formed.axes.distinct };
    coords = coords_formed cs fill s.axes s.coords is.formed.coords fits.coords limits.1;
    vars = done.formed;
    coords_distinct = ap (λ ns. are_distinct (ns ++ names_of means.coords)) (names_kept cs s.axes) ∙ ap (λ ns. are_distinct (axis_names s.axes ++ ns)) (coord_names cs fill s.coords) ∙ is.formed.coords_distinct;
    vars_distinct =
        ap (λ ns. are_distinct (ns ++ (names_of means.coords ++ variable_names means.vars))) (labelled_same cs s.axes)
        ∙ ap (λ ns. are_distinct (axis_names (labelled s.axes) ++ (ns ++ variable_names means.vars))) (coord_names cs fill s.coords)
        ∙ ap (λ ns. are_distinct (axis_names (labelled s.axes) ++ (names_of s.coords ++ ns))) (map-map (λ (v : of.Variable). v.name) (changed_variable cs fill s.axes) whole.vars) ∙ is.formed.vars_distinct;
    busy = all_kept old cs fill s.axes s.coords whole.vars s.axes ∙ is.formed.busy;
    attrs = is.formed.attrs;
    few = leb-true (length means.coords + length means.vars) most_variables limits.3;
  }

  abbrev most : ℕ
  most = 16 * span (s.axes ++ means.axes)

  fit : AllByRecursion (IsVarFit old means.axes) (map (var_made cs fill) s.vars) × (vars_cells old (map (var_made cs fill) s.vars) ≤ length (map (var_made cs fill) s.vars) * most)
  fit = fits_within old means.axes most (map (var_made cs fill) s.vars) done.fit

  abbrev pub made : SetMade
  made = record { axes = map (new_axis cs) s.axes; coords = map (changed_coord cs fill) s.coords; vars = map (var_made cs fill) s.vars; attrs = s.attrs; skipped = s.skipped }

  set_is : set_made_in old made ≡ means
  set_is = λ i. record { axes = means.axes; coords = means.coords; vars = done.is i; attrs = s.attrs; skipped = s.skipped }

  pub set_fits : (m : SetMade) → m ≡ made → IsSetMade old m
  set_fits m e = rw e (record { vars = fit.0; formed = subst IsDataset (sym set_is) formed })

  pub set_placed : (m : SetMade) → m ≡ made → (new : List Node) (t : Dataset) → IsSetOf new (set_made_in old m) t → AddsAtMost old new (vars_cells old m.vars) → IsSetChanged old new means whole t
  set_placed m e new t told adds =
      let same : dataset_in new t ≡ means = told.is ∙ ap (set_made_in old) e ∙ set_is in
      let count : length made.vars ≡ length whole.vars = length-map s.vars (var_made cs fill) ∙ sym (length-map s.vars (variable_in old)) in
      let room : length made.vars * most ≡ 16 * length whole.vars * span (s.axes ++ t.axes) = ap (λ n. n * most) count ∙ (grind arith) ∙ ap (λ (d : of.Dataset). 16 * length whole.vars * span (s.axes ++ d.axes)) (sym same) in
      let few = fit.1 in
      let cells = ap (λ (m : SetMade). vars_cells old m.vars) e in
      record { is = same; inside = told.inside; space = adds_up old new (vars_cells old m.vars) (16 * length whole.vars * span (s.axes ++ t.axes)) (omega (arith, few, cells, room)) adds }
