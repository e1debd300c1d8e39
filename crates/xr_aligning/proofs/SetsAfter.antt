-- Datasets over joined axes are as they have to be.
use Rattle.xr_aligning.proofs.Common.{All-from_recursion, AllByRecursion, AreCells, AreFitted, AreLoose, ArePut, AreVarsAfter, Array, Arrive, Arrives, Attr, Axis, Bool, CanPut, Change, Coord, Dataset, Err, Fit, Grows, IsCell, IsCoordinate, IsDataset, IsDatasetIn, IsNodeOf, IsSetAfter, IsValueOf, IsVarAfter, IsVarHere, IsVariable, KeepsLabels, List, Node, Ok, OnOk, Option, Result, Variable, [], among, any_hole, ap, are_distinct, arith, axes_called, axis_called, axis_names, called_holds, cells_after, cond, dataset_in, drop, false, fill_in, fit_of, fitted_cells, fitted_coord, fitted_set, fitted_variable, get_or, has_hole, is_kept, is_some, is_within, joined_in, labelled, length, length-map, list_all, list_any, map, masked_with, most_cells, most_variables, names_of, nat_le, own_sizes, put_behind, recursion_from_All, refl, shape_over, sizes, sizes_after, sizes_called, split, subst, sym, take, true, value, variable_array, variable_in, variable_names, with_variable, with_variables, ℕ, ℤ, ◌&&◌, ◌++◌, ◌+◌, ◌-◌, ◌<◌, ◌||◌, ◌∙◌, ◌∷◌, ◌≡◌, ◌≤◌}
use Rattle.xr_defs.specs.Values as of
use Rattle.xr_values.specs.Variables as named
use Rattle.xr_aligning.proofs.Along.{after_is, same_hole}
use Rattle.xr_aligning.proofs.Assigning.{all_formed, all_placed, same_variable, still, var_names}
use Rattle.xr_aligning.proofs.Called.{own_over, sizes_over, there_hold}
use Rattle.xr_aligning.proofs.Firsts.{each_rest, whole_list}
use Rattle.xr_aligning.proofs.Formed.{called_after, cells_formed, each_dimension, same_coord_names, same_names}

-- ---- the axes that a variable names

abbrev AreNamed : List Axis → List (List ℕ) → Type 0
AreNamed axes dims = AllByRecursion (λ d. among (axis_names axes) d ≡ true) dims

sizes_own : (axes : List Axis) (dims : List (List ℕ)) → sizes_called axes dims ≡ shape_over (axes_called axes dims)
sizes_own axes [] = refl
sizes_own axes (d ∷ dims) = ap (λ ns. (axis_called axes d).size ∷ ns) (sizes_own axes dims)

module _ (joined own : List Axis) (all : Arrive joined own) where
  abbrev after : List Axis
  after = map (joined_in joined) own

  called_arrive : (dims : List (List ℕ)) → AreNamed own dims → Arrive joined (axes_called own dims)
  called_arrive [] over = tt
  called_arrive (d ∷ dims) over = ((called_holds (Arrives joined) d own all over.0).0, called_arrive dims over.1)

  pub sizes_new : (dims : List (List ℕ)) → AreNamed own dims → sizes_after joined own dims ≡ sizes_called after dims
  sizes_new [] over = refl
  sizes_new (d ∷ dims) over = (λ i. (sym (called_after joined own d all over.0) i).size ∷ sizes_new dims over.1 i)

-- the node that is changed has the sizes of the variable's axes
pub var_sized : (nodes : List Node) (joined own : List Axis) (v : Variable) (fs : List Fit) → IsVarHere nodes own v → fs ≡ map (fit_of joined) (axes_called own v.dims) → IsNodeOf nodes v.node (own_sizes fs) v.kind
var_sized nodes joined own v fs here same = subst (λ s. IsNodeOf nodes v.node s v.kind) (sizes_own own v.dims ∙ sym (ap own_sizes same ∙ own_over joined (axes_called own v.dims))) here.node

-- ---- one variable

module _ (old new : List Node) (joined own : List Axis) (fill : Option ℤ) (all : Arrive joined own) (v : Variable) (here : IsVarHere old own v) where
  abbrev xs : List Axis
  xs = axes_called own v.dims

  abbrev fs : List Fit
  fs = map (fit_of joined) xs

  abbrev cells : Array
  cells = variable_array own (variable_in old v)

  there : Arrive joined xs
  there = called_arrive joined own all v.dims here.formed.over

  same_cells : value old v.node ≡ cells
  same_cells = (λ i. record { kind = here.node.has_kind i; shape = here.node.has_shape i; cells = (value old v.node).cells })

  cells_are : cells_after fill fs (value old v.node) ≡ fitted_cells joined xs fill cells
  cells_are = ap (cells_after fill fs) same_cells ∙ after_is joined fill xs cells there here.formed.cells.whole (sizes_own own v.dims)

  module _ (within : is_within (shape_over (map (joined_in joined) xs)) ≡ true) (cell : IsCell v.kind (fill_in (any_hole fs) fill)) (name : List ℕ) (dims : List (List ℕ)) (masked : Bool) (attrs : List Attr) (node : ℕ)
      (same_name : name ≡ v.name) (same_dims : dims ≡ v.dims) (same_mask : masked ≡ masked_with v.masked fill (any_hole fs)) (same_attrs : attrs ≡ v.attrs) (n : IsValueOf new (cells_after fill fs (value old v.node)) node) where
    abbrev w : Variable
    w = record { name = name; dims = dims; kind = v.kind; masked = masked; attrs = attrs; node = node }

    mask_is : masked ≡ masked_with v.masked fill (has_hole joined xs)
    mask_is = same_mask ∙ ap (masked_with v.masked fill) (same_hole joined xs)

    value_is : value new node ≡ fitted_cells joined xs fill cells
    value_is = n.is ∙ cells_are

    var_is : variable_in new w ≡ fitted_variable joined own fill (variable_in old v)
    var_is = (λ i. record { name = same_name i; dims = same_dims i; kind = v.kind; masked = mask_is i; attrs = same_attrs i; cells = (value_is i).cells })

    new_sizes : shape_over (map (joined_in joined) xs) ≡ sizes_called (after joined own all) v.dims
    new_sizes = sizes_new joined own all v.dims here.formed.over

    var_formed : IsVariable (after joined own all) (fitted_variable joined own fill (variable_in old v))
    var_formed = record {
      name = here.formed.name;
      over = subst (λ ns. AllByRecursion (λ d. among ns d ≡ true) v.dims) (sym (same_names joined own all)) here.formed.over;
      distinct = here.formed.distinct;
      attrs = here.formed.attrs;
      cells = subst (λ s. AreCells s v.kind (masked_with v.masked fill (has_hole joined xs)) (fitted_cells joined xs fill cells).cells) new_sizes
          (cells_formed joined fill xs v.kind v.masked cells there refl (sizes_own own v.dims) (subst (λ s. AreCells s v.kind v.masked cells.cells) (sizes_own own v.dims) here.formed.cells) within (subst (λ b. IsCell v.kind (fill_in b fill)) (same_hole joined xs) cell));
    }

    pub var_after : IsVarAfter old new joined own fill v w
    var_after = record {
      is = var_is;
      here = record {
        node = record {
          placed = n.inside;
          has_shape = ap (λ (a : Array). a.shape) value_is ∙ new_sizes ∙ ap (sizes_called (after joined own all)) (sym same_dims);
          has_kind = ap (λ (a : Array). a.kind) value_is;
        };
        formed = subst (IsVariable (after joined own all)) (sym var_is) var_formed;
      };
    }

-- ---- while the plan grows

module _ (old new : List Node) (grows : Grows old new) where
  pub stays_here : (axes : List Axis) (v : Variable) → IsVarHere old axes v → IsVarHere new axes v
  stays_here axes v here = record {
    node = still old new grows v (sizes_called axes v.dims) here.node;
    formed = subst (IsVariable axes) (sym (same_variable old new grows v (sizes_called axes v.dims) here.node)) here.formed;
  }

  pub all_stay_here : (axes : List Axis) (vs : List Variable) → AllByRecursion (IsVarHere old axes) vs → AllByRecursion (IsVarHere new axes) vs
  all_stay_here axes [] all = tt
  all_stay_here axes (v ∷ vs) all = (stays_here axes v all.0, all_stay_here axes vs all.1)

  module _ (joined own : List Axis) (fill : Option ℤ) where
    -- what is made stays
    stays_after : (first : List Node) (v w : Variable) → IsVarAfter first old joined own fill v w → IsVarAfter first new joined own fill v w
    stays_after first v w after = record {
      is = same_variable old new grows w (sizes_called (map (joined_in joined) own) w.dims) after.here.node ∙ after.is;
      here = stays_here (map (joined_in joined) own) w after.here;
    }

    -- and what is made later is made of what stood before
    made_before : (last : List Node) (vs ws : List Variable) → AllByRecursion (IsVarHere old own) vs → AreVarsAfter new last joined own fill vs ws → AreVarsAfter old last joined own fill vs ws
    made_before last [] [] here are = tt
    made_before last [] (w ∷ ws) here are = absurd are
    made_before last (v ∷ vs) [] here are = absurd are
    made_before last (v ∷ vs) (w ∷ ws) here are =
        let same = same_variable old new grows v (sizes_called own v.dims) here.0.node in
        (record { is = are.0.is ∙ ap (fitted_variable joined own fill) same; here = are.0.here }, made_before last vs ws here.1 are.1)

module _ (joined own : List Axis) (fill : Option ℤ) where
  pub none_put : (nodes : List Node) (before out : List Variable) → out ≡ before → ArePut nodes nodes joined own fill before [] out
  none_put nodes before out same = record { more = []; are = tt; put = same }

  pub one_put : (old mid new : List Node) (before next vs out : List Variable) (v w : Variable) → Grows old mid → Grows mid new → AllByRecursion (IsVarHere old own) vs → IsVarAfter old mid joined own fill v w → next ≡ with_variable before w
      → ArePut mid new joined own fill next vs out → ArePut old new joined own fill before (v ∷ vs) out
  one_put old mid new before next vs out v w first second here after is rest = record {
    more = w ∷ rest.more;
    are = (stays_after mid new second joined own fill old v w after, made_before old mid first joined own fill new vs rest.more here rest.are);
    put = rest.put ∙ ap (λ us. with_variables us rest.more) is;
  }

  pub empty_put : (nodes : List Node) (before vs : List Variable) → length vs < 1 → ArePut nodes nodes joined own fill before vs before
  empty_put nodes before [] none = none_put nodes before before refl
  empty_put nodes before (v ∷ vs) none = absurd (omega arith)

  pub more_put : {E : Type 0} (r : Result (Unit {0}) E) (old mid new : List Node) (before next vs out : List Variable) (v w : Variable) → 1 ≤ length vs → v ≡ get_or vs 0 v → Grows old mid → Grows mid new → AllByRecursion (IsVarHere old own) vs → IsVarAfter old mid joined own fill v w
      → next ≡ with_variable before w → OnOk r (ArePut mid new joined own fill next (take (length vs - 1) (drop 1 vs)) out) → OnOk r (ArePut old new joined own fill before vs out)
  more_put (Err e) old mid new before next vs out v w some is first second here made put rest = tt
  more_put (Ok u) old mid new before next vs out v w some is first second here made put rest =
      let parts = each_rest (IsVarHere old own) vs v some is here in
      subst (λ us. ArePut old new joined own fill before us out) (sym (whole_list vs v some is)) (one_put old mid new before next (take (length vs - 1) (drop 1 vs)) out v w first second parts.1 made put rest)

-- ---- all variables

module _ (old new : List Node) (joined own : List Axis) (fill : Option ℤ) where
  abbrev fit : of.Variable → of.Variable
  fit = fitted_variable joined own fill

  vars_are : (vs ws : List Variable) → AreVarsAfter old new joined own fill vs ws → map (variable_in new) ws ≡ map fit (map (variable_in old) vs)
  vars_are [] [] are = refl
  vars_are [] (w ∷ ws) are = absurd are
  vars_are (v ∷ vs) [] are = absurd are
  vars_are (v ∷ vs) (w ∷ ws) are = (λ i. are.0.is i ∷ vars_are vs ws are.1 i)

  vars_here : (vs ws : List Variable) → AreVarsAfter old new joined own fill vs ws → AllByRecursion (IsVarHere new (map (joined_in joined) own)) ws
  vars_here [] [] are = tt
  vars_here [] (w ∷ ws) are = absurd are
  vars_here (v ∷ vs) [] are = absurd are
  vars_here (v ∷ vs) (w ∷ ws) are = (are.0.here, vars_here vs ws are.1)

  fit_names : (vs : List of.Variable) → variable_names (map fit vs) ≡ variable_names vs
  fit_names [] = refl
  fit_names (v ∷ vs) = ap (λ ns. v.name ∷ ns) (fit_names vs)

  same_dims : (vs : List of.Variable) (n : List ℕ) → list_any (λ (v : of.Variable). among v.dims n) (map fit vs) ≡ list_any (λ (v : of.Variable). among v.dims n) vs
  same_dims [] n = refl
  same_dims (v ∷ vs) n = ap (λ b. among v.dims n || b) (same_dims vs n)

-- the variables of a dataset of the plan
pub vars_of : (nodes : List Node) (s : Dataset) → IsDatasetIn nodes s → AllByRecursion (IsVarHere nodes s.axes) s.vars
vars_of nodes s is = both s.vars (recursion_from_All (λ (v : Variable). IsNodeOf nodes v.node (sizes_called s.axes v.dims) v.kind) s.vars is.nodes_of) is.formed.vars
  where
    both : (vs : List Variable) → AllByRecursion (λ (v : Variable). IsNodeOf nodes v.node (sizes_called s.axes v.dims) v.kind) vs → AllByRecursion (IsVariable s.axes) (map (variable_in nodes) vs) → AllByRecursion (IsVarHere nodes s.axes) vs
    both [] ns formed = tt
    both (v ∷ vs) ns formed = (record { node = ns.0; formed = formed.0 }, both vs ns.1 formed.1)

-- ---- axes and coordinates

module _ (joined : List Axis) where
  labelled_same : (xs : List Axis) → Arrive joined xs → AllByRecursion (KeepsLabels joined) xs → axis_names (labelled (map (joined_in joined) xs)) ≡ axis_names (labelled xs)
  labelled_same [] all keep = refl
  labelled_same (x ∷ xs) all keep =
      ap (λ b. axis_names (cond b (joined_in joined x ∷ labelled (map (joined_in joined) xs)) (labelled (map (joined_in joined) xs)))) keep.0 ∙ by (is_some x.labels) (labelled_same xs all.1 keep.1)
    where
      by : (b : Bool) → axis_names (labelled (map (joined_in joined) xs)) ≡ axis_names (labelled xs)
          → axis_names (cond b (joined_in joined x ∷ labelled (map (joined_in joined) xs)) (labelled (map (joined_in joined) xs))) ≡ axis_names (cond b (x ∷ labelled xs) (labelled xs))
      by true rest = (λ i. all.0.name i ∷ rest i)
      by false rest = rest

  module _ (fill : Option ℤ) (own : List Axis) (arrive : Arrive joined own) where
    -- the axes of a coordinate have their names
    same_over : (coords : List Coord) (n : List ℕ) → AllByRecursion (λ (c : Coord). Arrive joined c.axes) coords
        → list_any (λ (c : Coord). among (axis_names c.axes) n) (map (fitted_coord joined fill) coords) ≡ list_any (λ (c : Coord). among (axis_names c.axes) n) coords
    same_over [] n all = refl
    same_over (c ∷ coords) n all = (λ i. among (same_names joined c.axes all.0 i) n || same_over coords n all.1 i)

    all_kept : (old new : List Node) (coords : List Coord) (vs : List of.Variable) (xs : List Axis) → AllByRecursion (λ (c : Coord). Arrive joined c.axes) coords → Arrive joined xs → AllByRecursion (KeepsLabels joined) xs
        → list_all (is_kept (map (fitted_coord joined fill) coords) (map (fitted_variable joined own fill) vs)) (map (joined_in joined) xs) ≡ list_all (is_kept coords vs) xs
    all_kept old new coords vs [] over all keep = refl
    all_kept old new coords vs (x ∷ xs) over all keep =
        (λ i. kept i && all_kept old new coords vs xs over all.1 keep.1 i)
      where
        kept : is_kept (map (fitted_coord joined fill) coords) (map (fitted_variable joined own fill) vs) (joined_in joined x) ≡ is_kept coords vs x
        kept =
            (λ i. keep.0 i || list_any (λ (c : Coord). among (axis_names c.axes) (all.0.name i)) (map (fitted_coord joined fill) coords) || list_any (λ (v : of.Variable). among v.dims (all.0.name i)) (map (fitted_variable joined own fill) vs))
            ∙ (λ i. is_some x.labels || same_over coords x.name over i || same_dims old new joined own fill vs x.name i)

coords_arrive : (joined own : List Axis) → Arrive joined own → (fill : Option ℤ) (coords : List Coord) → AllByRecursion (IsCoordinate own) coords → AllByRecursion (λ (c : Coord). Arrive joined c.axes) coords
coords_arrive joined own all fill [] is = tt
coords_arrive joined own all fill (c ∷ coords) is = (there_hold (Arrives joined) own c.axes all is.0.over, coords_arrive joined own all fill coords is.1)

short_sizes : (joined xs : List Axis) → list_all (λ n. nat_le n most_cells) (sizes (map (fit_of joined) xs)) ≡ list_all (λ n. nat_le n most_cells) (shape_over (map (joined_in joined) xs))
short_sizes joined xs = ap (list_all (λ n. nat_le n most_cells)) (sizes_over joined xs)

-- ---- the dataset

module _ (old new : List Node) (joined : List Axis) (fill : Option ℤ) (s : Dataset) (is : IsDatasetIn old s) (loose : AreLoose joined) (all : Arrive joined s.axes) (keep : AllByRecursion (KeepsLabels joined) s.axes)
    (short : list_all (λ n. nat_le n most_cells) (sizes (map (fit_of joined) s.axes)) ≡ true) (out : List Variable) (put : ArePut old new joined s.axes fill [] s.vars out) (axes : List Axis) (coords : List Coord) (attrs : List Attr) (skipped : List (List ℕ))
    (same_axes : axes ≡ map (joined_in joined) s.axes) (cs : AreFitted joined fill s.axes [] s.coords coords) (same_attrs : attrs ≡ s.attrs) (same_skipped : skipped ≡ s.skipped) where
  abbrev means : of.Dataset
  means = fitted_set joined fill (dataset_in old s)

  abbrev later : List Axis
  later = map (joined_in joined) s.axes

  abbrev fitted_vars : List of.Variable
  fitted_vars = map (fitted_variable joined s.axes fill) (map (variable_in old) s.vars)

  abbrev fitted_coords : List Coord
  fitted_coords = map (fitted_coord joined fill) s.coords

  more_are : map (variable_in new) put.more ≡ fitted_vars
  more_are = vars_are old new joined s.axes fill s.vars put.more put.are

  names_distinct : are_distinct (axis_names (labelled later) ++ (names_of fitted_coords ++ variable_names fitted_vars)) ≡ true
  names_distinct =
      ap (λ ns. are_distinct (ns ++ (names_of fitted_coords ++ variable_names fitted_vars))) (labelled_same joined s.axes all keep)
      ∙ ap (λ ns. are_distinct (axis_names (labelled s.axes) ++ (ns ++ variable_names fitted_vars))) (same_coord_names joined fill s.coords)
      ∙ ap (λ ns. are_distinct (axis_names (labelled s.axes) ++ (names_of s.coords ++ ns))) (fit_names old new joined s.axes fill (map (variable_in old) s.vars)) ∙ is.formed.vars_distinct

  more_distinct : are_distinct (named.names_of put.more) ≡ true
  more_distinct =
      let outer = split (axis_names (labelled later)) (names_of fitted_coords ++ variable_names fitted_vars) names_distinct in
      let own = split (names_of fitted_coords) (variable_names fitted_vars) outer.second in
      ap are_distinct (sym (var_names new put.more) ∙ ap variable_names more_are) ∙ own.second

  out_is : out ≡ put.more
  out_is = put.put ∙ put_behind [] put.more more_distinct

  abbrev t : Dataset
  t = record { axes = axes; coords = coords; vars = out; attrs = attrs; skipped = skipped }

  set_is : dataset_in new t ≡ means
  unfolding fitted_set
  set_is = (λ i. record { axes = same_axes i; coords = cs.are i; vars = (ap (map (variable_in new)) out_is ∙ more_are) i; attrs = same_attrs i; skipped = same_skipped i })

  here : AllByRecursion (IsVarHere new later) put.more
  here = vars_here old new joined s.axes fill s.vars put.more put.are

  few : length fitted_coords + length fitted_vars ≤ most_variables
  few =
      subst (λ n. n + length fitted_vars ≤ most_variables) (sym (length-map s.coords (fitted_coord joined fill)))
      (subst (λ n. length s.coords + n ≤ most_variables) (sym (length-map (map (variable_in old) s.vars) (fitted_variable joined s.axes fill))) is.formed.few)

  means_formed : IsDataset means
  unfolding fitted_set
  means_formed = record {
    axes = record { each = each_dimension joined loose s.axes is.formed.axes.each (sym (short_sizes joined s.axes) ∙ short); distinct = ap are_distinct (same_names joined s.axes all) ∙ is.formed.axes.distinct };
    coords = cs.formed;
    vars = subst (AllByRecursion (IsVariable later)) more_are (all_formed new later put.more here);
    coords_distinct = ap (λ ns. are_distinct (ns ++ names_of fitted_coords)) (same_names joined s.axes all) ∙ ap (λ ns. are_distinct (axis_names s.axes ++ ns)) (same_coord_names joined fill s.coords) ∙ is.formed.coords_distinct;
    vars_distinct = names_distinct;
    busy = all_kept joined fill s.axes all old new s.coords (map (variable_in old) s.vars) s.axes (coords_arrive joined s.axes all fill s.coords is.formed.coords) all keep ∙ is.formed.busy;
    attrs = is.formed.attrs;
    few = few;
  }

  pub set_after : IsSetAfter old new joined fill s t
  set_after = record {
    is = set_is;
    inside = record {
      nodes_of = All-from_recursion (λ (v : Variable). IsNodeOf new v.node (sizes_called axes v.dims) v.kind) out
          (subst (AllByRecursion (λ (v : Variable). IsNodeOf new v.node (sizes_called axes v.dims) v.kind)) (sym out_is)
          (subst (λ xs. AllByRecursion (λ (v : Variable). IsNodeOf new v.node (sizes_called xs v.dims) v.kind) put.more) (sym same_axes) (all_placed new later put.more here)));
      formed = subst IsDataset (sym set_is) means_formed;
    };
  }

-- ---- what is still to be put

pub rest_put : (old mid : List Node) (c : Change) (vs : List Variable) (v : Variable) → Grows old mid → 1 ≤ length vs → v ≡ get_or vs 0 v → CanPut old c vs → CanPut mid c (take (length vs - 1) (drop 1 vs))
rest_put old mid c vs v grows some is can = record {
  change = can.change;
  vars = all_stay_here old mid grows c.own.now (take (length vs - 1) (drop 1 vs)) (each_rest (IsVarHere old c.own.now) vs v some is can.vars).1;
}
