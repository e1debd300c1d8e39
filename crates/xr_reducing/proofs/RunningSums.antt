-- What is made of arrays and datasets is their running sums.
use Rattle.std.proofs.Common.{◌*◌, ◌≡◌, ◌<◌, ◌≤◌, ◌+◌, ◌||◌, ◌&&◌, ◌++◌, ℕ, ℤ, suc, Bool, true, false, not, cond, List, [], ◌∷◌, length, map, is_some, Option, Result, Ok, Err, refl, sym, ap, subst, ◌∙◌, arith}
use Rattle.std.specs.Prelude.{codes}
use Rattle.std.specs.Str.{bytes_eq}
use Rattle.std.specs.List.{AllByRecursion, list_all, list_any}
use Rattle.std.proofs.lemmas.List.{length-map}
use Rattle.xr_types.specs.Names.{among, are_distinct, axis_names, shape_over}
use Rattle.xr_types.specs.Points.{size}
use Rattle.xr_types.specs.Results.{◌>>=◌, unless}
use Rattle.xr_types.specs.declared.fault.Fault.{Fault}
use Rattle.xr_types.specs.declared.fault.Fault.TheVariants.{NoDimension}
use Rattle.xr_types.specs.declared.axis.Axis.{Axis}
use Rattle.xr_types.specs.declared.kind.DType.{DType}
use Rattle.xr_types.specs.declared.operation.FoldKind.TheVariants.{Sum}
use Rattle.xr_arrays.specs.declared.node.Node.{Node}
use Rattle.xr_arrays.specs.Arrays.{Array, IsCell}
use Rattle.xr_arrays.specs.Folds.{fold_of, total_kind}
use Rattle.xr_arrays.specs.Nodes.{most_axes, most_node_cells, scanned, up_to, value}
use Rattle.xr_arrays.proofs.FeedRanges.{point_below, scanned_cell}
use Rattle.plan_core.proofs.Tabs.{All-tab, tab-length}
use Rattle.xr_defs.specs.Arguments.{as_text, only}
use Rattle.xr_defs.specs.Building.{is_chars}
use Rattle.xr_defs.specs.Decoding.{is_kept}
use Rattle.xr_defs.specs.Meanings.{Given, Value}
use Rattle.xr_defs.specs.declared.value.Coord.{Coord}
use Rattle.xr_defs.specs.Room.{span}
use Rattle.xr_defs.specs.Selecting.{variable_array}
use Rattle.xr_defs.specs.Values as of
use Rattle.xr_defs.specs.Values.{array_of, without_fills}
use Rattle.xr_defs.specs.WellFormed.{variable_names, labelled, names_of, AreCells, IsDataArray, IsDataset, IsVariable}
use Rattle.xr_defs.proofs.Spans.{points_above}
use Rattle.xr_values.specs.declared.data_array.DataArray.{DataArray}
use Rattle.xr_values.specs.declared.dataset.Dataset.{Dataset}
use Rattle.xr_values.specs.declared.variable.Variable.{Variable}
use Rattle.xr_values.specs.Stands.{array_in, dataset_in, variable_in, IsArrayIn, IsDatasetIn, IsNodeOf}
use Rattle.xr_values.proofs.Grown.{array_value}
use Rattle.xr_formulas.specs.declared.chain.Step.TheVariants as step
use Rattle.xr_formulas.specs.declared.made.Made.{Made}
use Rattle.xr_formulas.specs.Chains.{StepFits}
use Rattle.xr_formulas.specs.Mades.{made_in, IsMade}
use Rattle.xr_operations.specs.Reductions.{cumsum_array, cumsum_of, cumsum_set, dim_given, place_in, size_called, summed_array, summed_set, variable_cumsum, variable_summed}
use Rattle.xr_reducing.specs.declared.chars.Frame.{Frame}
use Rattle.xr_reducing.specs.declared.realized.SetMade.{SetMade}
use Rattle.xr_reducing.specs.Reduced.{charless, framed_in, same_made, IsFrameIn}
use Rattle.xr_reducing.specs.Running.{set_along, summed_made, var_along, var_summed}
use Rattle.xr_reducing.specs.Sets.{set_made_in, var_made_in, IsFitWithin, IsSetFew}
use Rattle.xr_reducing.proofs.AllVariables.{charless_is}
use Rattle.xr_reducing.proofs.OneVariable.{within_span, IsVarReduced}
use Rattle.xr_reducing.proofs.Placing.{fits_within}
use Rattle.xr_reducing.proofs.Reduced.{attrs_left}

-- ---- cells

module _ (axis : ℕ) (shape : List ℕ) (t : DType) (masked : Bool) (cells : List (Option ℤ)) (is : AreCells shape t masked cells) where
  abbrev own : Array
  own = record { kind = t; shape = shape; cells = cells }

  cells_running : AreCells shape (total_kind t) false (scanned Sum own axis).cells
  cells_running = record {
    whole = tab-length shape (λ p. fold_of Sum t (up_to own axis p));
    range = All-tab (IsCell (total_kind t)) shape (λ p. fold_of Sum t (up_to own axis p))
        (λ p here. let small = is.few in scanned_cell Sum own axis p (record { whole = is.whole; range = is.range }) (point_below shape p axis here (omega (arith, small))));
    seen = λ plain. All-tab (λ c. is_some c ≡ true) shape (λ p. fold_of Sum t (up_to own axis p)) (λ p here. refl);
    low_rank = is.low_rank;
    few = is.few;
  }

scan_fits : (axis : ℕ) (shape : List ℕ) (v : Array) → v.shape ≡ shape → axis < length shape → size shape ≤ 33554432 → length shape ≤ 16 → StepFits (step.Scan Sum axis) v
scan_fits axis shape v is lt few low =
    record {
      fits = (omega arith, refl, subst (λ (s : List ℕ). axis < length s) (sym is) lt);
      small = subst (λ (s : List ℕ). size s ≤ most_node_cells) (sym is) (omega (arith, few));
      low_rank = subst (λ (s : List ℕ). length s ≤ most_axes) (sym is) low;
    }

place_inside : (ds : List (List ℕ)) (d : List ℕ) → among ds d ≡ true → place_in ds d < length ds
place_inside [] d has = absurd cc
place_inside (e ∷ ds) d has = by (bytes_eq d e) has (place_inside ds d)
  where
    by : (b : Bool) → (b || among ds d) ≡ true → (among ds d ≡ true → place_in ds d < length ds) → cond (not b) (1 + place_in ds d) 0 < suc (length ds)
    by true has rest = omega arith
    by false has rest = let lt = rest has in omega (arith, lt)

-- ---- arrays

module _ (nodes : List Node) (a : DataArray) (k : ℕ) (is : IsArrayIn nodes a) (lt : k < length (shape_over a.axes)) where
  formed : IsDataArray (summed_array (array_in nodes a) k)
  formed = record {
    name = is.formed.name;
    axes = is.formed.axes;
    coords = is.formed.coords;
    distinct = is.formed.distinct;
    attrs = attrs_left a.attrs is.formed.attrs;
    cells = cells_running k (shape_over a.axes) a.kind a.masked (array_in nodes a).cells is.formed.cells;
  }

  is_summed : made_in nodes (summed_made a k) ≡ summed_array (array_in nodes a) k
  is_summed = ap (λ (v : Array). of_cells (scanned Sum v k).cells) (array_value nodes a is)
    where
      of_cells : List (Option ℤ) → of.DataArray
      of_cells cells = record { name = a.name; axes = a.axes; kind = total_kind a.kind; masked = false; attrs = without_fills a.attrs; coords = a.coords; cells = cells }

  made_one : IsMade nodes (summed_made a k)
  made_one =
      let points = ap size is.node.has_shape in
      let most = points_above a.axes a.axes is.formed.axes.distinct (λ n e. e) (λ n. omega arith) in
      record {
        fits = record { start = is.node.placed; steps = (scan_fits k (shape_over a.axes) (value nodes a.node) is.node.has_shape lt is.formed.cells.few is.formed.cells.low_rank, tt) };
        shape = is.node.has_shape;
        kind = ap total_kind is.node.has_kind;
        formed = subst IsDataArray (sym is_summed) formed;
        room = omega (arith, points, most);
      }

-- the dimension that is given is one of them
given_among : (dims : List (List ℕ)) (g : Given) (d : List ℕ) → dim_given dims g ≡ Ok d → among dims d ≡ true
unfolding dim_given unless
given_among dims g d e = by (only (codes "dim") g) e
  where
    with_name : (t : List ℕ) (b : Bool) → among dims t ≡ b → (unless b (NoDimension t) >>= λ u. Ok t) ≡ Ok d → among dims d ≡ true
    with_name t true has e = let same : t ≡ d = cc in subst (λ n. among dims n ≡ true) same has
    with_name t false has e = absurd cc

    with_text : (r : Result (List ℕ) Fault) → (r >>= λ t. unless (among dims t) (NoDimension t) >>= λ u. Ok t) ≡ Ok d → among dims d ≡ true
    with_text (Ok t) e = with_name t (among dims t) refl e
    with_text (Err f) e = absurd cc

    by : (r : Result Value Fault) → (r >>= λ v. as_text v >>= λ t. unless (among dims t) (NoDimension t) >>= λ u. Ok t) ≡ Ok d → among dims d ≡ true
    by (Ok v) e = with_text (as_text v) e
    by (Err f) e = absurd cc

told_array : (nodes : List Node) (a : DataArray) (g : Given) (d : List ℕ) (m : Made) → IsArrayIn nodes a → is_chars a.kind ≡ false → dim_given (axis_names a.axes) g ≡ Ok d → m ≡ summed_made a (place_in (axis_names a.axes) d)
    → (cumsum_array (array_in nodes a) g ≡ Ok (made_in nodes m)) × IsMade nodes m
unfolding cumsum_array unless
told_array nodes a g d m is plain dim em =
    let k = place_in (axis_names a.axes) d in
    let inside = place_inside (axis_names a.axes) d (given_among (axis_names a.axes) g d dim) in
    let named = length-map a.axes (λ (x : Axis). x.name) in
    let sized = length-map a.axes (λ (x : Axis). x.size) in
    let lt : k < length (shape_over a.axes) = omega (arith, inside, named, sized) in
    let answer : cumsum_array (array_in nodes a) g ≡ Ok (summed_array (array_in nodes a) k) = rw (plain, dim) refl in
    (answer ∙ ap Ok (sym (ap (made_in nodes) em ∙ is_summed nodes a k is lt)), subst (IsMade nodes) (sym em) (made_one nodes a k is lt))

pub array_summed : (nodes : List Node) (a : DataArray) (g : Given) (axes : List Axis) (d : List ℕ) (k : ℕ) (m : Made) → IsArrayIn nodes a → is_chars a.kind ≡ false → axes ≡ a.axes → dim_given (axis_names axes) g ≡ Ok d → k ≡ place_in (axis_names axes) d → m ≡ summed_made a k
    → (cumsum_array (array_in nodes a) g ≡ Ok (made_in nodes m)) × IsMade nodes m
array_summed nodes a g axes d k m is plain eaxes dim ek em =
    told_array nodes a g d m is plain (subst (λ (xs : List Axis). dim_given (axis_names xs) g ≡ Ok d) eaxes dim) (em ∙ ap (summed_made a) (ek ∙ ap (λ (xs : List Axis). place_in (axis_names xs) d) eaxes))

-- ---- a variable

module _ (nodes : List Node) (d : List ℕ) (axes : List Axis) (v : Variable) (node : IsNodeOf nodes v.node (map (size_called axes) v.dims) v.kind) (is : IsVariable axes (variable_in nodes v)) where
  abbrev held : Array
  held = variable_array axes (variable_in nodes v)

  value_is : value nodes v.node ≡ held
  value_is =
      ap (λ k. record { kind = k; shape = (value nodes v.node).shape; cells = (value nodes v.node).cells }) node.has_kind
      ∙ ap (λ s. record { kind = v.kind; shape = s; cells = (value nodes v.node).cells }) node.has_shape

  makes : (b : Bool) → among v.dims d ≡ b → IsVarReduced nodes axes (cond b (variable_summed axes (variable_in nodes v) (place_in v.dims d)) (variable_in nodes v)) (cond b (var_summed v (place_in v.dims d)) (same_made v))
  makes false e = record { is = refl; formed = is; fits = record { start = node.placed; steps = tt }; shape = node.has_shape; kind = node.has_kind; cells = omega arith }
  makes true e =
      let k = place_in v.dims d in
      let inside = place_inside v.dims d e in
      let sized = length-map v.dims (size_called axes) in
      let lt : k < length (map (size_called axes) v.dims) = omega (arith, inside, sized) in
      let points = ap size node.has_shape in
      record {
        is = ap (λ (w : Array). of_cells (scanned Sum w k).cells) value_is;
        formed = record {
          name = is.name;
          over = is.over;
          distinct = is.distinct;
          attrs = attrs_left v.attrs is.attrs;
          cells = cells_running k (map (size_called axes) v.dims) v.kind v.masked (value nodes v.node).cells is.cells;
        };
        fits = record { start = node.placed; steps = (scan_fits k (map (size_called axes) v.dims) (value nodes v.node) node.has_shape lt is.cells.few is.cells.low_rank, tt) };
        shape = node.has_shape;
        kind = ap total_kind node.has_kind;
        cells = omega (arith, points);
      }
    where
      of_cells : List (Option ℤ) → of.Variable
      of_cells cells = record { name = v.name; dims = v.dims; kind = total_kind v.kind; masked = false; attrs = without_fills v.attrs; cells = cells }

  var_makes : IsVarReduced nodes axes (variable_cumsum d axes (variable_in nodes v)) (var_along d v)
  var_makes = makes (among v.dims d) refl

-- ---- datasets

module _ (nodes : List Node) (d : List ℕ) (s : Dataset) (f : Frame) (is : IsFrameIn nodes s f) where
  abbrev along : of.Variable → of.Variable
  along = variable_cumsum d f.axes

  abbrev Makes : Variable → Type 0
  Makes v = IsVarReduced nodes f.axes (variable_cumsum d f.axes (variable_in nodes v)) (var_along d v)

  each_made : (vs : List Variable) → AllByRecursion (λ (v : Variable). IsNodeOf nodes v.node (map (size_called f.axes) v.dims) v.kind) vs → AllByRecursion (IsVariable f.axes) (map (variable_in nodes) vs) → AllByRecursion Makes vs
  each_made [] ns fs = tt
  each_made (v ∷ vs) ns fs = (var_makes nodes d f.axes v ns.0 fs.0, each_made vs ns.1 fs.1)

  made : AllByRecursion Makes f.vars
  made = each_made f.vars is.nodes_of is.formed.vars

  are : (vs : List Variable) → AllByRecursion Makes vs → map (var_made_in nodes) (map (var_along d) vs) ≡ map (variable_cumsum d f.axes) (map (variable_in nodes) vs)
  are [] all = refl
  are (v ∷ vs) all = ap (λ w. w ∷ map (var_made_in nodes) (map (var_along d) vs)) all.0.is ∙ ap (λ ws. along (variable_in nodes v) ∷ ws) (are vs all.1)

  over_all : (vs : List Variable) → AllByRecursion Makes vs → AllByRecursion (IsVariable f.axes) (map (variable_cumsum d f.axes) (map (variable_in nodes) vs))
  over_all [] all = tt
  over_all (v ∷ vs) all = (all.0.formed, over_all vs all.1)

  fit_all : (vs : List Variable) → AllByRecursion Makes vs → AllByRecursion (IsFitWithin nodes f.axes (256 * span f.axes)) (map (var_along d) vs)
  fit_all [] all = tt
  fit_all (v ∷ vs) all =
      let one = all.0 in
      let dims : (var_along d v).dims ≡ (along (variable_in nodes v)).dims = ap (λ (w : of.Variable). w.dims) one.is in
      let most = subst (λ ds. size (map (size_called f.axes) ds) ≤ span f.axes) (sym dims) (within_span f.axes (along (variable_in nodes v)).dims one.formed.over one.formed.distinct) in
      let cells = one.cells in
      ((record { fits = one.fits; shape = one.shape; kind = one.kind }, omega (arith, most, cells)), fit_all vs all.1)

  same_name : (v : of.Variable) → (along v).name ≡ v.name
  same_name v = by (among v.dims d)
    where
      by : (b : Bool) → (cond b (variable_summed f.axes v (place_in v.dims d)) v).name ≡ v.name
      by true = refl
      by false = refl

  same_dims : (v : of.Variable) → (along v).dims ≡ v.dims
  same_dims v = by (among v.dims d)
    where
      by : (b : Bool) → (cond b (variable_summed f.axes v (place_in v.dims d)) v).dims ≡ v.dims
      by true = refl
      by false = refl

  same_names : (vs : List of.Variable) → variable_names (map (variable_cumsum d f.axes) vs) ≡ variable_names vs
  same_names [] = refl
  same_names (v ∷ vs) = ap (λ n. n ∷ variable_names (map (variable_cumsum d f.axes) vs)) (same_name v) ∙ ap (λ ns. v.name ∷ ns) (same_names vs)

  have_same : (n : List ℕ) (vs : List of.Variable) → list_any (λ (v : of.Variable). among v.dims n) (map (variable_cumsum d f.axes) vs) ≡ list_any (λ (v : of.Variable). among v.dims n) vs
  have_same n [] = refl
  have_same n (v ∷ vs) = ap (λ ds. among ds n || list_any (λ (v : of.Variable). among v.dims n) (map (variable_cumsum d f.axes) vs)) (same_dims v) ∙ ap (λ b. among v.dims n || b) (have_same n vs)

  abbrev vars : List of.Variable
  vars = map (variable_in nodes) f.vars

  still_busy : (xs : List Axis) → list_all (is_kept s.coords (map (variable_cumsum d f.axes) vars)) xs ≡ list_all (is_kept s.coords vars) xs
  still_busy [] = refl
  still_busy (x ∷ xs) =
      ap (λ b. (is_some x.labels || list_any (λ (c : Coord). among (axis_names c.axes) x.name) s.coords || b) && list_all (is_kept s.coords (map (variable_cumsum d f.axes) vars)) xs) (have_same x.name vars) ∙ ap (λ b. is_kept s.coords vars x && b) (still_busy xs)

  set_formed : IsDataset (summed_set d (framed_in nodes s f))
  set_formed =
      let names = same_names vars in
      record {
        axes = is.formed.axes;
        coords = is.formed.coords;
        vars = over_all f.vars made;
        coords_distinct = is.formed.coords_distinct;
        vars_distinct = ap (λ ns. are_distinct (axis_names (labelled f.axes) ++ (names_of s.coords ++ ns))) names ∙ is.formed.vars_distinct;
        busy = still_busy f.axes ∙ is.formed.busy;
        attrs = attrs_left s.attrs is.formed.attrs;
        few = let count = length-map vars (variable_cumsum d f.axes) in let most = is.formed.few in omega (arith, count, most);
      }

  set_is : set_made_in nodes (set_along d s f) ≡ summed_set d (framed_in nodes s f)
  set_is = ap with_vars (are f.vars made)
    where
      with_vars : List of.Variable → of.Dataset
      with_vars vs = record { axes = f.axes; coords = s.coords; vars = vs; attrs = without_fills s.attrs; skipped = s.skipped }

  set_fits : IsSetFew nodes (set_along d s f)
  set_fits = let both = fits_within nodes f.axes (256 * span f.axes) (map (var_along d) f.vars) (fit_all f.vars made) in (record { vars = both.0; formed = subst IsDataset (sym set_is) set_formed }, both.1)

told_set : (nodes : List Node) (s : Dataset) (f : Frame) (g : Given) (d : List ℕ) (m : SetMade) → IsFrameIn nodes s f → dim_given (axis_names f.axes) g ≡ Ok d → m ≡ set_along d s f → (cumsum_of (framed_in nodes s f) g ≡ Ok (set_made_in nodes m)) × IsSetFew nodes m
unfolding cumsum_of
told_set nodes s f g d m is dim em =
    let answer : cumsum_of (framed_in nodes s f) g ≡ Ok (summed_set d (framed_in nodes s f)) = rw (dim) refl in
    (answer ∙ ap Ok (sym (ap (set_made_in nodes) em ∙ set_is nodes d s f is)), subst (IsSetFew nodes) (sym em) (set_fits nodes d s f is))

pub frame_summed : (nodes : List Node) (s : Dataset) (f : Frame) (g : Given) (axes : List Axis) (d : List ℕ) (m : SetMade) → IsFrameIn nodes s f → axes ≡ f.axes → dim_given (axis_names axes) g ≡ Ok d → m ≡ set_along d s f
    → (cumsum_of (framed_in nodes s f) g ≡ Ok (set_made_in nodes m)) × IsSetFew nodes m
frame_summed nodes s f g axes d m is eaxes dim em = told_set nodes s f g d m is (subst (λ (xs : List Axis). dim_given (axis_names xs) g ≡ Ok d) eaxes dim) em

pub sums_begin : (nodes : List Node) (s : Dataset) (g : Given) (f : Frame) → IsDatasetIn nodes s → f ≡ charless s → cumsum_set (dataset_in nodes s) g ≡ cumsum_of (framed_in nodes s f) g
unfolding cumsum_set
sums_begin nodes s g f is e = sym (ap (λ (h : Frame). cumsum_of (framed_in nodes s h) g) e ∙ ap (λ t. cumsum_of t g) (charless_is nodes s is))
