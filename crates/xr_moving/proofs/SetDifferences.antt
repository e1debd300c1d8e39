-- Differences of neighbours in the variables of a dataset.
use Rattle.xr_moving.proofs.Common.{AllByRecursion, AreCells, Array, Axis, Bool, Change, Coord, Dataset, Err, Fault, Given, IsDataset, IsDatasetIn, IsFramed, IsNodeOf, IsSetMade, IsVariable, Node, None, Ok, Option, Result, SetMade, Some, VarMade, Variable, WrongKind, [], all_of, among, any_mapped, ap, are_distinct, arith, axes_left, axis_called, axis_names, axis_position, changed_coord, coord_names, coords_left, dataset_in, differences, false, get_or, get_or-map, is_kept, is_some, is_truths, keeping, labelled, length, length-map, list_all, list_all-map, list_any, map, names_kept, names_of, neighbours, new_axis, no_axis, place_of, refl, set, set_made_in, shape_over, sizes, sizes_again, subst, sym, true, variable_array, variable_in, variable_names, without_fills, ℕ, ◌&&◌, ◌++◌, ◌-◌, ◌<◌, ◌>>=◌, ◌||◌, ◌∙◌, ◌∷◌, ◌≡◌}
use Rattle.std.proofs.Common.{not, List}
use Rattle.std.proofs.lemmas.List as lists
use Rattle.xr_types.specs.Results.{unless}
use Rattle.xr_types.specs.declared.fault.Fault.TheVariants.{NoDimension}
use Rattle.xr_defs.specs.Parts.{axes_called}
use Rattle.xr_defs.specs.Values as of
use Rattle.xr_parts.proofs.Axes.{named_again, none_called}
use Rattle.xr_changing.proofs.Formed.{called_new}
use Rattle.xr_changing.proofs.NewAxes.{index_kept, name_kept}
use Rattle.xr_changing.proofs.SetsPlaced.{labelled_same}
use Rattle.xr_operations.specs.Moves.{check_numbers, diff_given, diff_set, set_differences, var_differences, without_chars}
use Rattle.xr_reducing.specs.declared.chars.Frame.{Frame}
use Rattle.xr_reducing.specs.Reduced.{charless, framed_in, IsFrameIn}
use Rattle.xr_reducing.proofs.AllVariables.{begun_in, charless_is}
use Rattle.xr_reducing.proofs.Reduced.{attrs_left}
use Rattle.xr_moving.specs.Diffs.{differed_made, differed_of, same_made, set_made, var_differed}
use Rattle.xr_moving.proofs.Kept.{axes_stay, place_is, placed, shape_left}
use Rattle.xr_moving.proofs.Differences.{differences_made}
use Rattle.xr_moving.proofs.Left.{its_name}
use Rattle.xr_moving.proofs.Loops.{both_ok}
use Rattle.xr_moving.proofs.Made.{all_done, busy_stays, names_stay, var_done, AreDone, AreMade, IsDone, IsVarDone}

-- ---- frames

pub frame_is : (nodes : List Node) (s : Dataset) (f : Frame) → IsFrameIn nodes s f → IsFramed f.axes s.coords
frame_is nodes s f is = record { axes = is.formed.axes; coords = is.formed.coords; distinct = is.formed.coords_distinct }

pub charless_framed : (nodes : List Node) (s : Dataset) → IsDatasetIn nodes s → IsFramed (charless s).axes s.coords
charless_framed nodes s is = frame_is nodes s (charless s) (begun_in nodes s (charless s) is refl)

-- ---- truth values are refused

numbers_there : (t b : Bool) → unless (not (t && b)) WrongKind ≡ Ok tt → b ≡ true → t ≡ false
unfolding unless
numbers_there true true e there = absurd cc
numbers_there true false e there = absurd cc
numbers_there false b e there = refl

numbers_at : (dim : List ℕ) (v : of.Variable) (j : ℕ) → check_numbers dim v ≡ Ok tt → place_of dim v.dims ≡ Some j → is_truths v.kind ≡ false
unfolding check_numbers
numbers_at dim v j e at = numbers_there (is_truths v.kind) (is_some (place_of dim v.dims)) e (ap is_some at)

-- ---- a variable

module _ (nodes : List Node) (axes : List Axis) (k : ℕ) (upper : Bool) (lt : k < length axes) (d : are_distinct (axis_names axes) ≡ true) where
  abbrev x : Axis
  x = get_or axes k no_axis

  abbrev changes : List Change
  changes = keeping upper (get_or axes k no_axis)

  abbrev left : List Axis
  left = axes_left upper axes k

  new_sizes : (dims : List (List ℕ)) → AllByRecursion (λ n. among (axis_names axes) n ≡ true) dims → sizes left dims ≡ shape_over (map (new_axis changes) (axes_called axes dims))
  new_sizes [] all = refl
  new_sizes (n ∷ dims) all = ap (λ (y : Axis). y.size ∷ sizes left dims) (called_new changes axes n all.0) ∙ ap (λ ns. (new_axis changes (axis_called axes n)).size ∷ ns) (new_sizes dims all.1)

  module _ (v : Variable) (node : IsNodeOf nodes v.node (sizes axes v.dims) v.kind) (var : IsVariable axes (variable_in nodes v)) where
    abbrev own : Array
    own = variable_array axes (variable_in nodes v)

    -- its axes
    abbrev xs : List Axis
    xs = axes_called axes v.dims

    names : axis_names xs ≡ v.dims
    names = named_again axes v.dims var.over

    place_in : place_of (get_or axes k no_axis).name v.dims ≡ axis_position (get_or axes k no_axis).name xs
    place_in = ap (place_of x.name) (sym names) ∙ sym (place_is x.name xs)

    over : AllByRecursion (λ n. among (axis_names left) n ≡ true) v.dims
    over = subst (λ ns. AllByRecursion (λ n. among ns n ≡ true) v.dims) (sym (names_kept changes axes)) var.over

    stays : place_of (get_or axes k no_axis).name v.dims ≡ None → IsVarDone nodes left (variable_in nodes v) (same_made v)
    stays e =
        let same : sizes left v.dims ≡ sizes axes v.dims = new_sizes v.dims var.over ∙ ap shape_over (axes_stay upper x xs (none_called xs x.name (sym place_in ∙ e))) ∙ sizes_again axes v.dims in
        record {
          is = refl;
          fit = record { fits = record { start = node.placed; steps = tt }; shape = node.has_shape ∙ sym same; kind = node.has_kind; room = omega arith };
          formed = record { name = var.name; over = over; distinct = var.distinct; attrs = var.attrs; cells = subst (λ s. AreCells s v.kind v.masked (variable_in nodes v).cells) (sym same) var.cells };
        }

    module _ (j : ℕ) (place : place_of (get_or axes k no_axis).name v.dims ≡ Some j) (numbers : is_truths v.kind ≡ false) where
      abbrev means : of.Variable
      means = record { name = v.name; dims = v.dims; kind = v.kind; masked = v.masked; attrs = without_fills v.attrs; cells = (differences own j).cells }

      at : (j < length xs) × ((get_or xs j no_axis).name ≡ (get_or axes k no_axis).name)
      at = placed x.name xs j (sym place_in ∙ place)

      own_shape : shape_over xs ≡ sizes axes v.dims
      own_shape = sizes_again axes v.dims

      inside : j < length (sizes axes v.dims)
      inside = let here = at.0 in let rank = length-map xs (λ (y : Axis). y.size) in let same = ap length own_shape in omega (arith, here, rank, same)

      there : get_or xs j no_axis ≡ get_or axes k no_axis
      there =
          let count = length-map v.dims (axis_called axes) in
          let here = at.0 in
          lists.get_or-map (axis_called axes) v.dims j [] no_axis (omega (arith, count, here))
          ∙ ap (axis_called axes) (ap (λ ns. get_or ns j []) (sym names) ∙ get_or-map (λ (y : Axis). y.name) xs j no_axis ∙ at.1) ∙ its_name axes k lt d

      sized : get_or (sizes axes v.dims) j 0 ≡ (get_or axes k no_axis).size
      sized = ap (λ s. get_or s j 0) (sym own_shape) ∙ get_or-map (λ (y : Axis). y.size) xs j no_axis ∙ ap (λ (y : Axis). y.size) there

      final : set (sizes axes v.dims) j (get_or (sizes axes v.dims) j 0 - 1) ≡ sizes left v.dims
      final =
          ap (λ m. set (sizes axes v.dims) j (m - 1)) sized ∙ ap (λ s. set s j (x.size - 1)) (sym own_shape)
          ∙ sym (new_sizes v.dims var.over ∙ shape_left upper x xs j at.0 (ap are_distinct names ∙ var.distinct) there)

      all_made : AreMade nodes (neighbours v.node j (get_or (sizes axes v.dims) j 0)) (sizes left v.dims) v.kind v.masked (differences own j)
      all_made = subst (λ t. AreMade nodes (neighbours v.node j (get_or (sizes axes v.dims) j 0)) t v.kind v.masked (differences own j)) final (differences_made nodes v.node (sizes axes v.dims) v.kind v.masked node var.cells j inside numbers)

      differs : IsVarDone nodes left means (differed_made v j (get_or axes k no_axis).size)
      differs =
          subst (λ m. IsVarDone nodes left means (differed_made v j m)) sized
          (var_done nodes left (differed_made v j (get_or (sizes axes v.dims) j 0)) (differences own j) all_made
          (record { name = var.name; over = over; distinct = var.distinct; attrs = attrs_left v.attrs var.attrs; cells = all_made.are }))

    var_makes : (whole : of.Dataset) → whole.axes ≡ axes → check_numbers (get_or axes k no_axis).name (variable_in nodes v) ≡ Ok tt
        → IsVarDone nodes left (var_differences (get_or axes k no_axis).name (record whole { axes = axes }) (variable_in nodes v)) (var_differed (get_or axes k no_axis).name (get_or axes k no_axis).size v)
    var_makes whole same checked = by (place_of x.name v.dims) refl
      where
        by : (o : Option ℕ) → place_of (get_or axes k no_axis).name v.dims ≡ o
            → IsVarDone nodes left (elim o as (λ o. of.Variable) [ None ↦ variable_in nodes v | Some j ↦ record (variable_in nodes v) { attrs = without_fills v.attrs; cells = (differences own j).cells } ])
            (elim o as (λ o. VarMade) [ None ↦ same_made v | Some j ↦ differed_made v j (get_or axes k no_axis).size ])
        by None e = stays e
        by (Some j) e = differs j e (numbers_at x.name (variable_in nodes v) j checked e)

-- ---- a dataset

module _ (nodes : List Node) (s : Dataset) (f : Frame) (k : ℕ) (upper : Bool) (is : IsFrameIn nodes s f) (lt : k < length f.axes) where
  abbrev along : Axis
  along = get_or f.axes k no_axis

  abbrev whole : of.Dataset
  whole = framed_in nodes s f

  abbrev differ : of.Variable → of.Variable
  differ = var_differences (get_or f.axes k no_axis).name (framed_in nodes s f)

  abbrev made : Variable → VarMade
  made = var_differed (get_or f.axes k no_axis).name (get_or f.axes k no_axis).size

  each_differs : (vs : List Variable) → AllByRecursion (λ (v : Variable). IsNodeOf nodes v.node (sizes f.axes v.dims) v.kind) vs → AllByRecursion (IsVariable f.axes) (map (variable_in nodes) vs) → all_of (check_numbers along.name) (map (variable_in nodes) vs) ≡ Ok tt
      → AllByRecursion (IsDone nodes (axes_left upper f.axes k) made differ) vs
  each_differs [] ns fs checked = tt
  each_differs (v ∷ vs) ns fs checked =
      let parts = both_ok (check_numbers along.name (variable_in nodes v)) (all_of (check_numbers along.name) (map (variable_in nodes) vs)) checked in
      (var_makes nodes f.axes k upper lt is.formed.axes.distinct v ns.0 fs.0 whole refl parts.0, each_differs vs ns.1 fs.1 parts.1)

  same_name : (v : of.Variable) → (differ v).name ≡ v.name
  same_name v = by (place_of along.name v.dims)
    where
      by : (o : Option ℕ) → (elim o as (λ o. of.Variable) [ None ↦ v | Some j ↦ record v { attrs = without_fills v.attrs; cells = (differences (variable_array f.axes v) j).cells } ]).name ≡ v.name
      by None = refl
      by (Some j) = refl

  same_dims : (v : of.Variable) → (differ v).dims ≡ v.dims
  same_dims v = by (place_of along.name v.dims)
    where
      by : (o : Option ℕ) → (elim o as (λ o. of.Variable) [ None ↦ v | Some j ↦ record v { attrs = without_fills v.attrs; cells = (differences (variable_array f.axes v) j).cells } ]).dims ≡ v.dims
      by None = refl
      by (Some j) = refl

  abbrev vars : List of.Variable
  vars = map (variable_in nodes) f.vars

  abbrev cs : List Change
  cs = keeping upper (get_or f.axes k no_axis)

  abbrev news : List Coord
  news = coords_left upper f.axes k s.coords

  -- an axis is one of a coordinate or a variable where it was
  coords_have : (n : List ℕ) → list_any (λ (c : Coord). among (axis_names c.axes) n) news ≡ list_any (λ (c : Coord). among (axis_names c.axes) n) s.coords
  coords_have n = any_mapped (λ (c : Coord). among (axis_names c.axes) n) (changed_coord cs None) s.coords ∙ (λ i. list_any (λ (c : Coord). among (names_kept cs c.axes i) n) s.coords)

  kept_same : (x : Axis) → is_kept news vars (new_axis cs x) ≡ is_kept s.coords vars x
  kept_same x = (λ i. is_some (new_axis cs x).labels || list_any (λ (c : Coord). among (axis_names c.axes) (name_kept cs x i)) news || list_any (λ (v : of.Variable). among v.dims (name_kept cs x i)) vars)
      ∙ (λ i. index_kept cs x i || coords_have x.name i || list_any (λ (v : of.Variable). among v.dims x.name) vars)

  still_busy : list_all (is_kept news (map differ vars)) (map (new_axis cs) f.axes) ≡ list_all (is_kept s.coords vars) f.axes
  still_busy = busy_stays differ same_dims news vars (axes_left upper f.axes k) ∙ list_all-map (is_kept news vars) (new_axis cs) f.axes ∙ (λ i. list_all (λ x. kept_same x i) f.axes)

  module _ (framed : IsFramed (axes_left upper f.axes k) (coords_left upper f.axes k s.coords)) (checked : all_of (check_numbers (get_or f.axes k no_axis).name) (map (variable_in nodes) f.vars) ≡ Ok tt) where
    each_made : AreDone nodes (axes_left upper f.axes k) made differ f.vars
    each_made = all_done nodes (axes_left upper f.axes k) made differ f.vars (each_differs f.vars is.nodes_of is.formed.vars checked)

    set_formed : IsDataset (set_differences upper k (framed_in nodes s f))
    set_formed = record {
      axes = framed.axes;
      coords = framed.coords;
      vars = each_made.formed;
      coords_distinct = framed.distinct;
      vars_distinct = ap (λ ns. are_distinct (ns ++ (names_of news ++ variable_names (map differ vars)))) (labelled_same cs f.axes)
          ∙ (λ i. are_distinct (axis_names (labelled f.axes) ++ (coord_names cs None s.coords i ++ names_stay differ same_name vars i))) ∙ is.formed.vars_distinct;
      busy = still_busy ∙ is.formed.busy;
      attrs = attrs_left s.attrs is.formed.attrs;
      few =
          let count = length-map vars differ in
          let others = length-map s.coords (changed_coord cs None) in
          let most = is.formed.few in
          omega (arith, count, others, most);
    }

    set_is : set_made_in nodes (set_made upper k s f) ≡ set_differences upper k (framed_in nodes s f)
    set_is = ap (λ vs. record (set_differences upper k (framed_in nodes s f)) { vars = vs }) each_made.are

    set_fits : IsSetMade nodes (set_made upper k s f)
    set_fits = record { vars = each_made.fit; formed = subst IsDataset (sym set_is) set_formed }

-- ---- the call

pub differed_told : (nodes : List Node) (s : Dataset) (f : Frame) (axes : List Axis) (seen : List Variable) (dim : List ℕ) (upper : Bool) (k : ℕ) (m : SetMade) → IsFrameIn nodes s f → axes ≡ f.axes → seen ≡ f.vars → axis_position dim axes ≡ Some k
    → all_of (check_numbers dim) (map (variable_in nodes) seen) ≡ Ok tt → m ≡ set_made upper k s f → IsFramed (axes_left upper f.axes k) (coords_left upper f.axes k s.coords) → (differed_of dim upper (framed_in nodes s f) ≡ Ok (set_made_in nodes m)) × IsSetMade nodes m
unfolding differed_of
differed_told nodes s f axes seen dim upper k m is eaxes evars place checked em framed =
    let at : axis_position dim f.axes ≡ Some k = ap (axis_position dim) (sym eaxes) ∙ place in
    let lt = (placed dim f.axes k at).0 in
    let named = (placed dim f.axes k at).1 in
    let here : all_of (check_numbers dim) (map (variable_in nodes) f.vars) ≡ Ok tt = ap (λ vs. all_of (check_numbers dim) (map (variable_in nodes) vs)) (sym evars) ∙ checked in
    let numbers : all_of (check_numbers (get_or f.axes k no_axis).name) (map (variable_in nodes) f.vars) ≡ Ok tt = ap (λ n. all_of (check_numbers n) (map (variable_in nodes) f.vars)) named ∙ here in
    let answer : differed_of dim upper (framed_in nodes s f) ≡ Ok (set_differences upper k (framed_in nodes s f)) =
    ap (λ (o : Option ℕ). elim o as (λ o. Result of.Dataset Fault) [ None ↦ Err (NoDimension dim) | Some k ↦ all_of (check_numbers dim) (map (variable_in nodes) f.vars) >>= λ u. Ok (set_differences upper k (framed_in nodes s f)) ]) at
    ∙ ap (λ (r : Result (Unit {0}) Fault). r >>= λ u. Ok (set_differences upper k (framed_in nodes s f))) here in
    (answer ∙ ap Ok (sym (ap (set_made_in nodes) em ∙ set_is nodes s f k upper is lt framed numbers)), subst (IsSetMade nodes) (sym em) (set_fits nodes s f k upper is lt framed numbers))

pub diffs_begin : (nodes : List Node) (s : Dataset) (g : Given) (f : Frame) (d : List ℕ × Bool) → IsDatasetIn nodes s → f ≡ charless s → diff_given g ≡ Ok d → diff_set (dataset_in nodes s) g ≡ differed_of d.0 d.1 (framed_in nodes s f)
unfolding diff_set differed_of
diffs_begin nodes s g f d is e told =
    ap (λ (r : Result (List ℕ × Bool) Fault). r >>= λ d. differed_of d.0 d.1 (without_chars (dataset_in nodes s))) told ∙ sym (ap (λ (h : Frame). differed_of d.0 d.1 (framed_in nodes s h)) e ∙ ap (differed_of d.0 d.1) (charless_is nodes s is))
