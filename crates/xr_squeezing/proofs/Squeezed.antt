-- Arrays and datasets of a plan without dimensions of one position.
use Rattle.xr_squeezing.proofs.Common.{AddsAtMost, Dataset, IsArrayOf, has_labels, map-map, AllByRecursion, AllPass-from_list_all, AreAlone, AreAmong, AreCells, Array, Axis, Chain, ChainFits, Coord, DataArray, IsAlone, IsArrayIn, IsDataArray, IsDataset, IsDatasetIn, IsFitWithin, IsNodeOf, IsSetMade, IsSetOf, IsValueOf, IsVarFit, IsVariable, Labels, List, Node, None, Option, SetMade, Some, Step, VarMade, Variable, [], absent_among, absent_both, absent_parts, adds_up, all_hold, among, any-filter_same, any_mapped, anything, ap, append_assoc, are_distinct, are_few, arith, array_in, axes_left, axis_called, axis_names, bytes_eq, chain_cells, chain_value, cond, count_by, dataset_in, distinct_names, each_left, each_map, each_weaker, false, fits_within, has_axis, has_dim, is_kept, is_some, join, kept_called, label_coord, labelled, labelled_left, labels_left, leb-true, length, length-append, length-map, list_any, list_any-append, map, map-id, most_variables, named_left, names_left, names_of, nat_le, not, not-true, over_left, own_axes, points_above, recursion_from_All, refl, same_text, set_made_in, shape_over, size, size_called, sizes_left, some_both, some_left, some_same, span, split, squeezed_array, squeezed_coord, squeezed_set, squeezed_variable, steps_value, steps_without, subst, sum_by, sym, true, value, var_made, var_made_in, variable_in, variable_names, vars_cells, ℕ, ◌*◌, ◌++◌, ◌+◌, ◌||◌, ◌∙◌, ◌∷◌, ◌≡◌, ◌≤◌}
use Rattle.xr_reducing.proofs.OneVariable.{within_span}
use Rattle.std.proofs.lemmas.List.Concat.{length-flat_map}
use Rattle.xr_squeezing.proofs.Leaving.{AreLeaving, IsOne, all_leaving, cells_alone, frame_kept, label_names, label_of, names_after, of_name, ones}
use Rattle.xr_defs.specs.Values as of
use Rattle.xr_formulas.specs.declared.chain.Start.TheVariants as starts

-- ---- an array

module _ (nodes : List Node) (gone : List (List ℕ)) (a : DataArray) (is : IsArrayIn nodes a) (alone : AreAlone a.axes gone) where
  abbrev whole : of.DataArray
  whole = squeezed_array gone (array_in nodes a)

  there : AllByRecursion (IsOne gone (λ (x : Axis). x.name) (λ (x : Axis). x.size)) a.axes
  there = ones gone a.axes alone a.axes (own_axes a.axes is.formed.axes.distinct)

  array_formed : IsDataArray whole
  array_formed =
      let frame = frame_kept gone a.axes alone a.coords (record { dims = is.formed.axes; over = is.formed.coords; distinct = is.formed.distinct }) in
      record {
        name = is.formed.name;
        axes = frame.dims;
        coords = frame.over;
        distinct = frame.distinct;
        attrs = is.formed.attrs;
        cells = cells_alone gone (λ (x : Axis). x.name) (λ (x : Axis). x.size) a.axes a.kind a.masked whole.cells there is.formed.cells;
      }

  cells_leave : AreLeaving (steps_without gone 0 (axis_names a.axes)) (value nodes a.node) (shape_over whole.axes) (16 * span whole.axes)
  cells_leave =
      all_leaving gone (λ (x : Axis). x.name) (λ (x : Axis). x.size) a.axes (value nodes a.node) a.kind a.masked (span whole.axes) there is.node.has_shape is.formed.cells (points_above whole.axes whole.axes array_formed.axes.distinct (λ n e. e) (λ n. omega arith))

  module _ (axes : List Axis) (steps : List Step) (x : axes ≡ whole.axes) (e : steps ≡ steps_without gone 0 (axis_names a.axes)) where
    abbrev chain : Chain
    chain = record { start = starts.Node a.node; steps = steps }

    pub chain_fits : ChainFits nodes chain
    chain_fits = record { start = is.node.placed; steps = rw e cells_leave.fits }

    -- the array that is built is the one that the definition gives
    pub told : (coords : List Coord) → coords ≡ whole.coords → (new : List Node) (n : ℕ) → IsValueOf new (chain_value nodes chain) n → IsArrayOf new whole (record a { axes = axes; coords = coords; node = n })
    told coords o new n v =
        let both : value new n ≡ record { kind = a.kind; shape = shape_over axes; cells = whole.cells } =
        v.is ∙ ap (λ ss. steps_value ss (value nodes a.node)) e ∙ cells_leave.value ∙ (λ i. record { kind = is.node.has_kind i; shape = shape_over (sym x i); cells = whole.cells }) in
        let same : array_in new (record a { axes = axes; coords = coords; node = n }) ≡ whole = λ i. record whole { axes = x i; coords = o i; cells = (both i).cells } in
        record { is = same; inside = record { node = record { placed = v.inside; has_shape = ap (λ (w : Array). w.shape) both; has_kind = ap (λ (w : Array). w.kind) both }; formed = subst IsDataArray (sym same) array_formed } }

    pub adds : (new : List Node) → AddsAtMost nodes new (chain_cells nodes chain) → AddsAtMost nodes new (16 * span axes)
    adds new added = adds_up nodes new (chain_cells nodes chain) (16 * span axes) (rw e (rw x (omega (arith, cells_leave.few)))) added

-- ---- one variable

module _ (gone : List (List ℕ)) (axes : List Axis) (alone : AreAlone axes gone) where
  abbrev after : List Axis
  after = axes_left gone axes

  abbrev most : ℕ
  most = 16 * span (axes_left gone axes)

  abbrev own : List ℕ → List ℕ
  own d = d

  dims_one : (dims : List (List ℕ)) → AllByRecursion (IsOne gone own (size_called axes)) dims
  dims_one dims = each_weaker (λ d. Unit {0}) (IsOne gone own (size_called axes)) dims (λ d u has. (of_name (IsAlone axes) gone d alone.each has).one) (anything dims)

  squeezed_formed : (v : of.Variable) → IsVariable axes v → IsVariable after (squeezed_variable gone v)
  squeezed_formed v is =
      record {
        name = is.name;
        over = over_left gone axes v.dims is.over;
        distinct = distinct_names gone v.dims is.distinct;
        attrs = is.attrs;
        cells = subst (λ s. AreCells s v.kind v.masked v.cells) (sizes_left gone axes v.dims) (cells_alone gone own (size_called axes) v.dims v.kind v.masked v.cells (dims_one v.dims) is.cells);
      }

  module _ (nodes : List Node) where
    leaves : (v : Variable) → IsNodeOf nodes v.node (map (size_called axes) v.dims) v.kind → IsVariable axes (variable_in nodes v) → AreLeaving (steps_without gone 0 v.dims) (value nodes v.node) (map (size_called after) (names_left gone v.dims)) most
    leaves v node is =
        let formed = squeezed_formed (variable_in nodes v) is in
        let few = within_span after (names_left gone v.dims) formed.over formed.distinct in
        let sizes = sizes_left gone axes v.dims in
        subst (λ ds. AreLeaving (steps_without gone 0 ds) (value nodes v.node) (map (size_called after) (names_left gone v.dims)) most) (map-id v.dims)
        (subst (λ s. AreLeaving (steps_without gone 0 (map own v.dims)) (value nodes v.node) s most) sizes
        (all_leaving gone own (size_called axes) v.dims (value nodes v.node) v.kind v.masked (span after) (dims_one v.dims) node.has_shape is.cells (subst (λ s. size s ≤ span after) (sym sizes) few)))

    -- what is made of variables are those without the dimensions, and a plan gives them
    each_made : (vs : List Variable) → AllByRecursion (λ (v : Variable). IsNodeOf nodes v.node (map (size_called axes) v.dims) v.kind) vs → AllByRecursion (IsVariable axes) (map (variable_in nodes) vs)
        → (map (var_made_in nodes) (map (var_made gone) vs) ≡ map (squeezed_variable gone) (map (variable_in nodes) vs)) × AllByRecursion (IsFitWithin nodes after most) (map (var_made gone) vs)
    each_made [] ns fs = (refl, tt)
    each_made (v ∷ vs) ns fs =
        let one = leaves v ns.0 fs.0 in
        let rest = each_made vs ns.1 fs.1 in (
          λ i. record (squeezed_variable gone (variable_in nodes v)) { cells = (one.value i).cells } ∷ rest.0 i,
          ((record { fits = record { start = ns.0.placed; steps = one.fits }; shape = ap (λ (w : Array). w.shape) one.value; kind = ap (λ (w : Array). w.kind) one.value ∙ ns.0.has_kind }, omega (arith, one.few)), rest.1),
        )

-- ---- a dataset as it has to be

module _ (gone : List (List ℕ)) (s : of.Dataset) (is : IsDataset s) (alone : AreAlone s.axes gone) where
  abbrev labels : List Coord
  labels = labels_left gone s.axes

  abbrev means : of.Dataset
  means = squeezed_set gone s

  -- the labels that are left are those of labelled axes
  labels_there : AreAmong (axis_names (labelled s.axes)) (names_of labels)
  labels_there =
      subst (AreAmong (axis_names (labelled s.axes))) (sym (label_names s.axes gone alone.each))
      (each_left (IsAlone s.axes) (λ n. among (axis_names (labelled s.axes)) n ≡ true) (has_labels s.axes) (λ n e one. (kept_called (λ (x : Axis). is_some x.labels) s.axes n one.there e).0) gone alone.each)

  dims_still : (n : List ℕ) (dims : List (List ℕ)) → among gone n ≡ false → among (names_left gone dims) n ≡ among dims n
  dims_still n dims lacks = any-filter_same (bytes_eq n) (λ d. not (among gone d)) true (λ d e. ap (λ m. not (among gone m)) (sym (same_text n d e)) ∙ ap not lacks) dims

  kept_still : (x : Axis) → not (among gone x.name) ≡ true → is_kept s.coords s.vars x ≡ true → is_kept means.coords means.vars x ≡ true
  kept_still x stays kept =
      let lacks = not-true (among gone x.name) stays in
      let coords : list_any (has_axis x.name) means.coords ≡ (list_any (has_axis x.name) s.coords || list_any (has_axis x.name) labels) =
      list_any-append (has_axis x.name) (map (squeezed_coord gone) s.coords) labels ∙ ap (λ b. b || list_any (has_axis x.name) labels) (any_mapped (has_axis x.name) (squeezed_coord gone) s.coords ∙ (λ i. list_any (λ (c : Coord). named_left gone c.axes x.name lacks i) s.coords)) in
      let vars : list_any (has_dim x.name) means.vars ≡ list_any (has_dim x.name) s.vars = any_mapped (has_dim x.name) (squeezed_variable gone) s.vars ∙ (λ i. list_any (λ (v : of.Variable). dims_still x.name v.dims lacks i) s.vars) in
      (λ i. (is_some x.labels || coords i) || vars i) ∙ grind (arith, kept)

  squeezed_set_formed : are_few means ≡ true → IsDataset means
  squeezed_set_formed few =
      let frame = frame_kept gone s.axes alone s.coords (record { dims = is.axes; over = is.coords; distinct = is.coords_distinct }) in
      let own = axis_names (labelled s.axes) in
      let left = axis_names (labelled means.axes) in
      let coords = names_of s.coords in
      let vars = variable_names s.vars in
      let more = names_of means.coords in
      let both = split (own ++ coords) vars (ap are_distinct (append_assoc own coords vars) ∙ is.vars_distinct) in
      let others = split coords vars (split own (coords ++ vars) is.vars_distinct).second in
      record {
        axes = frame.dims;
        coords = frame.over;
        vars = each_map (IsVariable s.axes) (IsVariable means.axes) (squeezed_variable gone) s.vars (squeezed_formed gone s.axes alone) is.vars;
        coords_distinct = frame.distinct;
        vars_distinct = ap are_distinct (sym (append_assoc left more (variable_names means.vars))) ∙ ap (λ ns. are_distinct ((left ++ more) ++ ns)) (map-map (λ (v : of.Variable). v.name) (squeezed_variable gone) s.vars)
            ∙ join (left ++ more) vars (record {
              first = (some_both (some_left (λ (x : Axis). x.name) (λ (x : Axis). is_some x.labels) means.axes) (some_same more)).distinct frame.distinct;
              second = others.second;
              apart = each_weaker (λ n. among (own ++ coords) n ≡ false) (λ n. among (left ++ more) n ≡ false) vars
                  (λ n lacks.
                  let parts = absent_parts own coords n lacks in
                  absent_both left more n (labelled_left (λ (x : Axis). not (among gone x.name)) s.axes n parts.0)
                  (ap (λ ns. among ns n) (names_after gone s.coords labels) ∙ absent_both coords (names_of labels) n parts.1 (absent_among own (names_of labels) n labels_there parts.0))) both.apart;
            });
        busy = all_hold (λ x. is_kept means.coords means.vars x ≡ true) (is_kept means.coords means.vars) (λ x e. e) means.axes
            (each_left (λ x. is_kept s.coords s.vars x ≡ true) (λ x. is_kept means.coords means.vars x ≡ true) (λ (x : Axis). not (among gone x.name)) kept_still s.axes (recursion_from_All (λ x. is_kept s.coords s.vars x ≡ true) s.axes (AllPass-from_list_all (is_kept s.coords s.vars) s.axes is.busy)));
        attrs = is.attrs;
        few = leb-true (length means.coords + length means.vars) most_variables few;
      }

-- ---- how many coordinates and variables it has

one_or_none : (x : Axis) (o : Option Labels) → length (label_of x o) ≡ cond (is_some o) 1 0
one_or_none x None = refl
one_or_none x (Some l) = refl

pub count_after : (gone : List (List ℕ)) (nodes : List Node) (s : Dataset) → are_few (squeezed_set gone (dataset_in nodes s)) ≡ nat_le (length s.coords + length s.vars + count_by (has_labels s.axes) gone) most_variables
count_after gone nodes s =
    let coords = length-map s.coords (squeezed_coord gone) in
    let all = length-append (map (squeezed_coord gone) s.coords) (labels_left gone s.axes) in
    let vars = length-map (map (variable_in nodes) s.vars) (squeezed_variable gone) in
    let own = length-map s.vars (variable_in nodes) in
    let labels = length-flat_map (λ n. label_coord (axis_called s.axes n) 0) gone ∙ (λ i. sum_by (λ n. one_or_none (axis_called s.axes n) (axis_called s.axes n).labels i) gone) in
    ap (λ n. nat_le n most_variables) (omega (arith, coords, all, vars, own, labels))

-- ---- a dataset of a plan

module _ (old : List Node) (gone : List (List ℕ)) (s : Dataset) (is : IsDatasetIn old s) (alone : AreAlone s.axes gone) where
  abbrev left : of.Dataset
  left = squeezed_set gone (dataset_in old s)

  abbrev all : List VarMade
  all = map (var_made gone) s.vars

  done : (map (var_made_in old) all ≡ left.vars) × AllByRecursion (IsFitWithin old left.axes (16 * span left.axes)) all
  done = each_made gone s.axes alone old s.vars (recursion_from_All (λ (v : Variable). IsNodeOf old v.node (map (size_called s.axes) v.dims) v.kind) s.vars is.nodes_of) is.formed.vars

  fit : AllByRecursion (IsVarFit old left.axes) all × (vars_cells old all ≤ length all * (16 * span left.axes))
  fit = fits_within old left.axes (16 * span left.axes) all done.1

  module _ (axes : List Axis) (coords : List Coord) (vars : List VarMade) (x : axes ≡ left.axes) (c : coords ≡ left.coords) (v : vars ≡ all) where
    abbrev made : SetMade
    made = record { axes = axes; coords = coords; vars = vars; attrs = s.attrs; skipped = s.skipped }

    set_is : set_made_in old made ≡ left
    set_is = λ i. record left { axes = x i; coords = c i; vars = (ap (map (var_made_in old)) v ∙ done.0) i }

    pub set_fits : are_few left ≡ true → IsSetMade old made
    set_fits few = record { vars = rw x (rw v fit.0); formed = subst IsDataset (sym set_is) (squeezed_set_formed gone (dataset_in old s) is.formed alone few) }

    module _ (new : List Node) (t : Dataset) (told : IsSetOf new (set_made_in old made) t) where
      pub set_told : IsSetOf new left t
      set_told = subst (λ (d : of.Dataset). IsSetOf new d t) set_is told

      pub set_space : AddsAtMost old new (vars_cells old vars) → AddsAtMost old new (16 * length s.vars * span t.axes)
      set_space adds =
          let count = length-map s.vars (var_made gone) in
          let here : length all * (16 * span left.axes) ≡ 16 * length s.vars * span left.axes = ap (λ k. k * (16 * span left.axes)) count ∙ grind arith in
          let there = ap (λ (d : of.Dataset). 16 * length s.vars * span d.axes) set_told.is in
          adds_up old new (vars_cells old vars) (16 * length s.vars * span t.axes) (omega (arith, fit.1, ap (vars_cells old) v, here, there)) adds
