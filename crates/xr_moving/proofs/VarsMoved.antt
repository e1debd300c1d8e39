-- Arrays and datasets with their cells moved.
use Rattle.xr_moving.proofs.Common.{All, AllByRecursion, Array, Axis, Dataset, Fit, IsArrayIn, IsCell, IsDataset, IsDatasetIn, IsNodeOf, IsVariable, Made, Makes, MakesSet, Moves, Node, None, Option, Some, Variable, [], ap, are_distinct, arith, array_in, array_of, axis_called, axis_names, dataset_in, distance, false, hides, is_moved, is_some, labelled, length-map, map, moved_along, moved_at, moved_by, moved_cells, names_of, own_axes, positions_by, refl, set_made_in, set_moved_by, shape_over, sizes, sizes_again, subst, suc, sym, true, var_moved, variable_array, variable_in, ℕ, ℤ, ◌&&◌, ◌++◌, ◌||◌, ◌∙◌, ◌∷◌, ◌≡◌}
use Rattle.std.proofs.Common.{List}
use Rattle.xr_values.specs.declared.data_array.DataArray.{DataArray}
use Rattle.xr_formulas.specs.Mades.{like}
use Rattle.xr_moving.specs.Sets.{set_made, var_made}
use Rattle.xr_parts.proofs.Axes.{the_axes}
use Rattle.xr_moving.proofs.Made.{all_done, array_made, busy_stays, names_stay, var_done, AreDone, AreMade, IsDone, IsVarDone}
use Rattle.xr_moving.proofs.Moved.{all_at, moves_made, AreAt}
use Rattle.xr_defs.specs.Values as of

-- ---- what has none of the dimensions stays

pub unmoved : (move : ℤ → ℕ → List (Option ℕ)) (fill : Option ℤ) (bys : List (List ℕ × ℤ)) (dims : List (List ℕ)) (k : ℕ) (a : Array) → is_moved bys dims ≡ false → moved_along move fill bys k dims a ≡ a
unmoved move fill bys [] k a e = refl
unmoved move fill bys (d ∷ dims) k a e = by (distance bys d) e (unmoved move fill bys dims (suc k) a)
  where
    by : (o : Option ℤ) → (is_some o || is_moved bys dims) ≡ false → (is_moved bys dims ≡ false → moved_along move fill bys (suc k) dims a ≡ a) → moved_along move fill bys (suc k) dims (moved_at move fill a k o) ≡ a
    by None e rest = rest e
    by (Some n) e rest = absurd cc

-- ---- an array

module _ (nodes : List Node) (a : DataArray) (m : Moves) (is : IsArrayIn nodes a) (fits : IsCell a.kind m.fill) where
  abbrev made : Made
  made = like a a.kind (a.masked || hides m.how m.fill && is_moved m.by (axis_names a.axes)) a.attrs (moved_cells m a.axes a.node (axis_names a.axes))

  abbrev moved_to : Array
  moved_to = moved_along (positions_by m.how) m.fill m.by 0 (axis_names a.axes) (array_of (array_in nodes a))

  own_shape : sizes a.axes (axis_names a.axes) ≡ shape_over a.axes
  own_shape = sym (sizes_again a.axes (axis_names a.axes)) ∙ ap shape_over (the_axes a.axes a.axes (own_axes a.axes is.formed.axes.distinct))

  cells_made : AreMade nodes made.cells (shape_over a.axes) a.kind made.masked moved_to
  cells_made =
      moves_made nodes a.node m a.axes (axis_names a.axes) (shape_over a.axes) a.kind a.masked is.node is.formed.cells (subst (λ s. AreAt a.axes s 0 (axis_names a.axes)) own_shape (all_at a.axes (axis_names a.axes)))
      (length-map a.axes (λ (x : Axis). x.name) ∙ sym (length-map a.axes (λ (x : Axis). x.size))) (λ e. fits)

  pub array_makes : Makes nodes (moved_by m (array_in nodes a)) made
  array_makes = array_made nodes made moved_to cells_made (record { name = is.formed.name; axes = is.formed.axes; coords = is.formed.coords; distinct = is.formed.distinct; attrs = is.formed.attrs; cells = cells_made.are })

-- ---- a dataset

each_of : {X : Type 0} (P : X → Type 0) (xs : List X) → All P xs → AllByRecursion P xs
each_of P [] all = tt
each_of P (x ∷ xs) all = (all 0 x (omega arith), each_of P xs (λ i y lt. all (suc i) y (omega arith)))

module _ (nodes : List Node) (s : Dataset) (m : Moves) (is : IsDatasetIn nodes s) (fits : Fit m s.vars) where
  abbrev set : of.Dataset
  set = dataset_in nodes s

  abbrev after : of.Variable → of.Variable
  after = var_moved (positions_by m.how) (λ t. m.fill) (hides m.how m.fill) m.by set

  abbrev IsHere : Variable → Type 0
  IsHere v = IsNodeOf nodes v.node (sizes s.axes v.dims) v.kind

  var_makes : (v : Variable) → IsHere v → IsVariable s.axes (variable_in nodes v) → (is_moved m.by v.dims ≡ true → IsCell v.kind m.fill) → IsVarDone nodes s.axes (after (variable_in nodes v)) (var_made m s.axes v)
  var_makes v node var fill =
      let all = moves_made nodes v.node m s.axes v.dims (sizes s.axes v.dims) v.kind v.masked node var.cells (all_at s.axes v.dims) (sym (length-map v.dims (λ d. (axis_called s.axes d).size))) fill in
      var_done nodes s.axes (var_made m s.axes v) (moved_along (positions_by m.how) m.fill m.by 0 v.dims (variable_array s.axes (variable_in nodes v))) all
      (record { name = var.name; over = var.over; distinct = var.distinct; attrs = var.attrs; cells = all.are })

  each_makes : (vs : List Variable) → AllByRecursion IsHere vs → AllByRecursion (IsVariable s.axes) (map (variable_in nodes) vs) → Fit m vs → AllByRecursion (IsDone nodes s.axes (var_made m s.axes) after) vs
  each_makes [] ns fs few = tt
  each_makes (v ∷ vs) ns fs few = (var_makes v ns.0 fs.0 few.0, each_makes vs ns.1 fs.1 few.1)

  all_made : AreDone nodes s.axes (var_made m s.axes) after s.vars
  all_made = all_done nodes s.axes (var_made m s.axes) after s.vars (each_makes s.vars (each_of IsHere s.vars is.nodes_of) is.formed.vars fits)

  formed : IsDataset (set_moved_by m set)
  formed = record {
    axes = is.formed.axes;
    coords = is.formed.coords;
    vars = all_made.formed;
    coords_distinct = is.formed.coords_distinct;
    vars_distinct = ap (λ ns. are_distinct (axis_names (labelled s.axes) ++ (names_of s.coords ++ ns))) (names_stay after (λ v. refl) set.vars) ∙ is.formed.vars_distinct;
    busy = busy_stays after (λ v. refl) s.coords set.vars s.axes ∙ is.formed.busy;
    attrs = is.formed.attrs;
    few = let same = length-map set.vars after in let few = is.formed.few in omega arith;
  }

  is_moved_set : set_made_in nodes (set_made m s) ≡ set_moved_by m set
  is_moved_set = ap (λ vs. record set { vars = vs }) all_made.are

  pub set_makes : MakesSet nodes (set_moved_by m (dataset_in nodes s)) (set_made m s)
  set_makes = record { is = is_moved_set; made = record { vars = all_made.fit; formed = subst IsDataset (sym is_moved_set) formed } }
