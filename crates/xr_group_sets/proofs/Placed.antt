-- The dataset of a plan whose variables are grouped.
use Rattle.std.proofs.Common.{◌≡◌, ◌≤◌, ◌+◌, ◌*◌, ◌||◌, ◌++◌, ℕ, ℤ, zero, suc, Bool, true, false, cond, List, [], ◌∷◌, length, map, filter, Option, is_some, All, refl, sym, ap, subst, ◌∙◌, arith}
use Rattle.std.specs.Str.{bytes_eq}
use Rattle.std.specs.List.{AllByRecursion, list_any}
use Rattle.std.proofs.lemmas.List.{length-map}
use Rattle.std.proofs.lemmas.Nat.{mul-le}
use Rattle.xr_types.specs.Names.{among, are_distinct, axis_names}
use Rattle.xr_types.specs.declared.attr.Attr.{Attr}
use Rattle.xr_types.specs.declared.axis.Axis.{Axis}
use Rattle.xr_types.specs.declared.operation.FoldKind.{FoldKind}
use Rattle.xr_arrays.specs.declared.node.Node.{Node}
use Rattle.xr_arrays.specs.Added.{AddsAtMost}
use Rattle.plan_core.proofs.Added.{adds_up}
use Rattle.xr_defs.specs.Decoding.{is_kept}
use Rattle.xr_defs.specs.declared.value.Coord.{Coord}
use Rattle.xr_defs.specs.Parts.{axes_called, without_idle}
use Rattle.xr_defs.specs.Room.{greatest, span, Portion}
use Rattle.xr_defs.specs.Room as rooms
use Rattle.xr_defs.specs.Selecting.{axis_called}
use Rattle.xr_defs.specs.Values as of
use Rattle.xr_defs.specs.Values.{without_fills}
use Rattle.xr_defs.specs.WellFormed.{labelled, names_of, variable_names, IsDataset, IsVariable}
use Rattle.xr_defs.proofs.Spans as spans
use Rattle.xr_defs.proofs.Spans.{back_among, greatest_both, greatest_some, span_up}
use Rattle.xr_operations.specs.Reductions.{size_called}
use Rattle.xr_values.specs.declared.dataset.Dataset.{Dataset}
use Rattle.xr_values.specs.declared.variable.Variable.{Variable}
use Rattle.xr_values.specs.Stands.{dataset_in, variable_in, IsNodeOf}
use Rattle.xr_values.specs.Variables.{with_variables}
use Rattle.xr_values.specs.Variables as names
use Rattle.xr_values.proofs.Named.{bytes_eq_swap, put_behind}
use Rattle.xr_values.proofs.Rooms.{in_room}
use Rattle.xr_parts.proofs.Axes.{called_cons, called_name, named_again}
use Rattle.xr_parts.proofs.Words.{AreAmong, same_text, split}
use Rattle.xr_reducing.specs.declared.chars.Frame.{Frame}
use Rattle.xr_reducing.specs.Reduced.{framed_in, is_busy}
use Rattle.xr_reducing.specs.Sets.{AddsForAnySet, IsSetOf}
use Rattle.xr_parts.proofs.Idle.{dim_left, has_axis, has_dim, idle_formed, left, sizes_left, vars_have, IsLoose}
use Rattle.xr_reducing.proofs.Reduced.{attrs_left}
use Rattle.xr_reducing.proofs.Staying.{fewer}
use Rattle.xr_groups.specs.declared.change.Change.{Change}
use Rattle.xr_groups.specs.declared.change.Least.{Least}
use Rattle.xr_groups.specs.Listed.{axes_by, coords_by, is_grouped}
use Rattle.xr_group_sets.specs.Listing.{set_filled, variable_at, variable_filled, vars_room, AreVarsIn, IsSetListing, IsVarListing}
use Rattle.xr_group_sets.proofs.OneVar.{at_axes, at_there}

-- ---- lists

all_of : {X : Type 0} (P : X → Type 0) (xs : List X) → AllByRecursion P xs → All P xs
all_of P [] all i x lt = absurd (omega arith)
all_of P (y ∷ ys) all zero x lt = all.0
all_of P (y ∷ ys) all (suc i) x lt = all_of P ys all.1 i x (omega arith)

same_filter : (p q : Axis → Bool) → ((x : Axis) → p x ≡ q x) → (xs : List Axis) → filter p xs ≡ filter q xs
same_filter p q same [] = refl
same_filter p q same (x ∷ xs) = ap (λ b. cond b (x ∷ filter p xs) (filter p xs)) (same x) ∙ ap (λ ys. cond (q x) (x ∷ ys) ys) (same_filter p q same xs)

-- ---- some of the axes span no more than all

called_below : (axes : List Axis) (n : List ℕ) → (axis_called axes n).size ≤ greatest axes n
called_below [] n = omega arith
called_below (x ∷ xs) n = subst (λ (y : Axis). y.size ≤ greatest (x ∷ xs) n) (sym (called_cons x xs n)) (by (bytes_eq x.name n) (bytes_eq_swap n x.name) (called_below xs n))
  where
    by : (b : Bool) → bytes_eq n x.name ≡ b → (axis_called xs n).size ≤ greatest xs n → (cond b x (axis_called xs n)).size ≤ greatest (x ∷ xs) n
    by true e rest = rw (e) (omega arith)
    by false e rest = rw (e) rest

module _ (axes : List Axis) where
  names_among : (ds : List (List ℕ)) → AreAmong (axis_names axes) ds → spans.AreAmong ds (axis_names axes)
  names_among [] has n own = absurd cc
  names_among (d ∷ ds) has n own = by (bytes_eq n d) refl own (names_among ds has.1 n)
    where
      by : (b : Bool) → bytes_eq n d ≡ b → (b || among ds n) ≡ true → (among ds n ≡ true → among (axis_names axes) n ≡ true) → among (axis_names axes) n ≡ true
      by true e own rest = ap (among (axis_names axes)) (same_text n d e) ∙ has.0
      by false e own rest = rest own

  greatest_called : (ds : List (List ℕ)) (n : List ℕ) → AreAmong (axis_names axes) ds → greatest (axes_called axes ds) n ≤ greatest axes n
  greatest_called [] n has = greatest_some axes n
  greatest_called (d ∷ ds) n has = by (bytes_eq n (axis_called axes d).name) refl (greatest_called ds n has.1)
    where
      by : (b : Bool) → bytes_eq n (axis_called axes d).name ≡ b → greatest (axes_called axes ds) n ≤ greatest axes n → greatest (axes_called axes (d ∷ ds)) n ≤ greatest axes n
      by true e rest =
          let same : n ≡ d = same_text n (axis_called axes d).name e ∙ called_name axes d has.0 in
          let one : (axis_called axes d).size ≤ greatest axes n = subst (λ m. (axis_called axes m).size ≤ greatest axes n) same (called_below axes n) in
          rw (e) (omega (arith, one, rest))
      by false e rest = rw (e) rest

  pub span_called : (ds : List (List ℕ)) → AreAmong (axis_names axes) ds → span (axes_called axes ds) ≤ span axes
  span_called ds has =
      span_up (axes_called axes ds) axes (subst (λ ns. spans.AreAmong ns (axis_names axes)) (sym (named_again axes ds has)) (names_among ds has)) (λ n. greatest_called ds n has)

-- ---- the dataset

module _ (old new : List Node) (k : FoldKind) (least : Least) (keeps : Bool) (cs : List Change) (fill : Option (Option ℤ)) (s : Dataset) (f : Frame) (is : IsSetListing old k least keeps cs fill s f)
    (ws : List Variable) (are : AreVarsIn (axes_by cs f.axes) new (map (variable_at k least cs fill f.axes) (map (variable_in old) f.vars)) ws) where
  abbrev after : List Axis
  after = axes_by cs f.axes

  abbrev new_coords : List Coord
  new_coords = coords_by keeps cs s.coords

  abbrev new_vars : List of.Variable
  new_vars = map (variable_at k least cs fill f.axes) (map (variable_in old) f.vars)

  one_name : (v : of.Variable) → (variable_at k least cs fill f.axes v).name ≡ v.name
  one_name v = by (is_grouped cs v.dims)
    where
      by : (b : Bool) → (cond b (variable_filled k least cs fill f.axes v) v).name ≡ v.name
      by true = refl
      by false = refl

  same_names : (vs : List Variable) → variable_names (map (variable_at k least cs fill f.axes) (map (variable_in old) vs)) ≡ names.names_of vs
  same_names [] = refl
  same_names (v ∷ vs) = ap (λ n. n ∷ variable_names (map (variable_at k least cs fill f.axes) (map (variable_in old) vs))) (one_name (variable_in old v)) ∙ ap (λ ns. v.name ∷ ns) (same_names vs)

  each_formed : (ms : List of.Variable) (vs : List Variable) → AreVarsIn after new ms vs → AllByRecursion (IsVariable after) ms
  each_formed [] [] all = tt
  each_formed [] (v ∷ vs) all = absurd all
  each_formed (m ∷ ms) [] all = absurd all
  each_formed (m ∷ ms) (v ∷ vs) all = (all.0.formed, each_formed ms vs all.1)

  the_same : (ms : List of.Variable) (vs : List Variable) → AreVarsIn after new ms vs → map (variable_in new) vs ≡ ms
  the_same [] [] all = refl
  the_same [] (v ∷ vs) all = absurd all
  the_same (m ∷ ms) [] all = absurd all
  the_same (m ∷ ms) (v ∷ vs) all = ap (λ w. w ∷ map (variable_in new) vs) all.0.is ∙ ap (λ us. m ∷ us) (the_same ms vs all.1)

  few_coords : (b : Bool) → length (coords_by b cs s.coords) ≤ length s.coords
  few_coords true = omega arith
  few_coords false = fewer _ s.coords

  abbrev loose : of.Dataset
  loose = record { axes = after; coords = new_coords; vars = new_vars; attrs = without_fills s.attrs; skipped = s.skipped }

  is_loose : IsLoose loose
  is_loose = record {
    frame = is.after;
    vars = each_formed new_vars ws are;
    distinct = ap (λ ns. are_distinct (axis_names (labelled after) ++ (names_of new_coords ++ ns))) (same_names f.vars) ∙ is.apart;
    attrs = attrs_left s.attrs is.frame.formed.attrs;
    few =
        let less = few_coords keeps in
        let count = length-map (map (variable_in old) f.vars) (variable_at k least cs fill f.axes) in
        let most = is.frame.formed.few in
        omega (arith, less, count, most);
  }

  formed : IsDataset (without_idle loose)
  formed = idle_formed loose is_loose

  -- ---- its axes

  abbrev kept_axes : List Axis
  kept_axes = left after new_coords new_vars

  dims_in : (n : List ℕ) (vs : List Variable) → list_any (has_dim n) (map (variable_in new) vs) ≡ list_any (λ (v : Variable). among v.dims n) vs
  dims_in n [] = refl
  dims_in n (v ∷ vs) = ap (λ t. among v.dims n || t) (dims_in n vs)

  busy_same : (vs : List Variable) (x : Axis) → is_kept new_coords (map (variable_in new) vs) x ≡ is_busy new_coords vs x
  busy_same vs x = ap (λ t. (is_some x.labels || list_any (has_axis x.name) new_coords) || t) (dims_in x.name vs)

  axes_are : filter (is_busy new_coords ws) after ≡ kept_axes
  axes_are = sym (same_filter (is_kept new_coords (map (variable_in new) ws)) (is_busy new_coords ws) (busy_same ws) after) ∙ ap (λ vs. filter (is_kept new_coords vs) after) (the_same new_vars ws are)

  -- ---- its variables

  names_in : (vs : List Variable) → names.names_of vs ≡ variable_names (map (variable_in new) vs)
  names_in [] = refl
  names_in (v ∷ vs) = ap (λ ns. v.name ∷ ns) (names_in vs)

  distinct : are_distinct (names.names_of ws) ≡ true
  distinct =
      let all = split (axis_names (labelled after)) (names_of new_coords ++ names.names_of f.vars) is.apart in
      let own = split (names_of new_coords) (names.names_of f.vars) all.second in
      ap are_distinct (names_in ws ∙ ap variable_names (the_same new_vars ws are) ∙ same_names f.vars) ∙ own.second

  each_node : (ms : List of.Variable) (vs : List Variable) → AreVarsIn after new ms vs → AllByRecursion (λ (m : of.Variable). AllByRecursion (λ d. list_any (has_dim d) new_vars ≡ true) m.dims) ms
      → AllByRecursion (λ (v : Variable). IsNodeOf new v.node (map (size_called kept_axes) v.dims) v.kind) vs
  each_node [] [] all have = tt
  each_node [] (v ∷ vs) all have = absurd all
  each_node (m ∷ ms) [] all have = absurd all
  each_node (m ∷ ms) (v ∷ vs) all have =
      let dims : v.dims ≡ m.dims = ap (λ (w : of.Variable). w.dims) all.0.is in
      let sizes : map (size_called kept_axes) v.dims ≡ map (size_called after) v.dims =
      subst (λ ds. map (size_called kept_axes) ds ≡ map (size_called after) ds) (sym dims) (sizes_left after new_coords new_vars m.dims all.0.formed.over have.0) in
      (subst (λ t. IsNodeOf new v.node t v.kind) (sym sizes) all.0.node, each_node ms vs all.1 have.1)

  abbrev placed : List Axis → List Variable → Dataset
  placed xs vs = record { axes = xs; coords = new_coords; vars = vs; attrs = without_fills s.attrs; skipped = s.skipped }

  means_is : dataset_in new (placed (filter (is_busy new_coords ws) after) ws) ≡ without_idle loose
  means_is = ap (λ xs. with_both xs (map (variable_in new) ws)) axes_are ∙ ap (with_both kept_axes) (the_same new_vars ws are)
    where
      with_both : List Axis → List of.Variable → of.Dataset
      with_both xs vs = record { axes = xs; coords = new_coords; vars = vs; attrs = without_fills s.attrs; skipped = s.skipped }

  set_of : IsSetOf new (set_filled k least keeps cs fill (framed_in old s f)) (placed (filter (is_busy new_coords ws) after) ws)
  unfolding set_filled
  set_of = record {
    is = means_is;
    inside = record {
      nodes_of = subst (λ xs. All (λ (v : Variable). IsNodeOf new v.node (map (size_called xs) v.dims) v.kind) ws) (sym axes_are)
          (all_of (λ (v : Variable). IsNodeOf new v.node (map (size_called kept_axes) v.dims) v.kind) ws (each_node new_vars ws are (vars_have new_vars)));
      formed = subst IsDataset (sym means_is) formed;
    };
  }

  -- ---- its room

  kept_called : (ds : List (List ℕ)) → AreAmong (axis_names after) ds → AllByRecursion (λ d. list_any (has_dim d) new_vars ≡ true) ds → AreAmong (axis_names kept_axes) ds × (axes_called kept_axes ds ≡ axes_called after ds)
  kept_called [] has have = (tt, refl)
  kept_called (d ∷ ds) has have =
      let one = dim_left after new_coords new_vars d has.0 have.0 in
      let rest = kept_called ds has.1 have.1 in
      ((one.0, rest.0), ap (λ x. x ∷ axes_called kept_axes ds) one.1 ∙ ap (λ xs. axis_called after d ∷ xs) rest.1)

  own_span : (v : Variable) → IsVarListing old k least cs fill f.axes v → AllByRecursion (λ d. list_any (has_dim d) new_vars ≡ true) (variable_at k least cs fill f.axes (variable_in old v)).dims → span (axes_by cs (axes_called f.axes v.dims)) ≤ span kept_axes
  own_span v fit have =
      let ds = (variable_at k least cs fill f.axes (variable_in old v)).dims in
      let same = at_axes old k least cs fill f.axes v is.frame.formed.axes is.after.dims.distinct fit.node fit.formed in
      let kept = kept_called ds (at_there old k least cs fill f.axes v is.frame.formed.axes is.after.dims.distinct fit.node fit.formed) have in
      subst (λ xs. span xs ≤ span kept_axes) (kept.1 ∙ sym same) (span_called kept_axes ds kept.0)

  rooms_fit : (vs : List Variable) → AllByRecursion (IsVarListing old k least cs fill f.axes) vs → AllByRecursion (λ (m : of.Variable). AllByRecursion (λ d. list_any (has_dim d) new_vars ≡ true) m.dims) (map (variable_at k least cs fill f.axes) (map (variable_in old) vs))
      → vars_room cs f.axes vs ≤ length vs * (256 * span kept_axes)
  rooms_fit [] fits have = omega arith
  rooms_fit (v ∷ vs) fits have =
      let rest = rooms_fit vs fits.1 have.1 in
      let one = own_span v fits.0 have.0 in
      let next : suc (length vs) * (256 * span kept_axes) ≡ 256 * span kept_axes + length vs * (256 * span kept_axes) = grind arith in
      omega (arith, rest, one, next)

  counted : (ms : List of.Variable) (vs : List Variable) → AreVarsIn after new ms vs → length ms ≡ length vs
  counted [] [] all = refl
  counted [] (v ∷ vs) all = absurd all
  counted (m ∷ ms) [] all = absurd all
  counted (m ∷ ms) (v ∷ vs) all = ap suc (counted ms vs all.1)

  set_room : AddsAtMost old new (vars_room cs f.axes f.vars) → AddsForAnySet old new (without_idle loose)
  set_room adds p =
      let both = p.axes ++ kept_axes in
      let up : span kept_axes ≤ span both = span_up kept_axes both (back_among p.axes kept_axes) (λ n. let g = greatest_both p.axes kept_axes n in omega (arith, g)) in
      let most = rooms_fit f.vars is.vars (vars_have new_vars) in
      let n = length f.vars in
      let same : length new_vars ≡ n = length-map (map (variable_in old) f.vars) (variable_at k least cs fill f.axes) ∙ length-map f.vars (variable_in old) in
      let above = mul-le (256 * n) (span kept_axes) (256 * n) (span both) (omega arith) up in
      let turned : n * (256 * span kept_axes) ≡ 256 * n * span kept_axes = grind arith in
      in_room old new p (rooms.of_set (without_idle loose)) (256 * n) (omega (arith, same)) (adds_up old new (vars_room cs f.axes f.vars) (256 * n * span both) (omega (arith, most, turned, above)) adds)

-- as the code hands them on
pub set_told : (old new : List Node) (k : FoldKind) (least : Least) (keeps : Bool) (cs : List Change) (fill : Option (Option ℤ)) (s : Dataset) (f : Frame) (own all axes : List Axis) (coords : List Coord) (attrs : List Attr) (skipped : List (List ℕ)) (vs listed ws out : List Variable)
    → IsSetListing old k least keeps cs fill s f → own ≡ f.axes → all ≡ axes_by cs own → coords ≡ coords_by keeps cs s.coords → attrs ≡ without_fills s.attrs → skipped ≡ s.skipped → vs ≡ f.vars → listed ≡ ws
    → AreVarsIn (axes_by cs own) new (map (variable_at k least cs fill own) (map (variable_in old) vs)) ws → AddsAtMost old new (vars_room cs own vs) → axes ≡ filter (is_busy coords listed) all → out ≡ with_variables [] listed
    → IsSetOf new (set_filled k least keeps cs fill (framed_in old s f)) (record { axes = axes; coords = coords; vars = out; attrs = attrs; skipped = skipped }) × AddsForAnySet old new (dataset_in new (record { axes = axes; coords = coords; vars = out; attrs = attrs; skipped = skipped }))
set_told old new k least keeps cs fill s f own all axes coords attrs skipped vs listed ws out is eown eall ecoords eattrs eskipped evs elisted are adds eaxes eout =
    let here : AreVarsIn (axes_by cs f.axes) new (map (variable_at k least cs fill f.axes) (map (variable_in old) f.vars)) ws =
    subst (λ us. AreVarsIn (axes_by cs f.axes) new (map (variable_at k least cs fill f.axes) (map (variable_in old) us)) ws) evs
    (subst (λ xs. AreVarsIn (axes_by cs xs) new (map (variable_at k least cs fill xs) (map (variable_in old) vs)) ws) eown are) in
    let added : AddsAtMost old new (vars_room cs f.axes f.vars) = subst (λ us. AddsAtMost old new (vars_room cs f.axes us)) evs (subst (λ xs. AddsAtMost old new (vars_room cs xs vs)) eown adds) in
    let axes_eq : axes ≡ filter (is_busy (coords_by keeps cs s.coords) ws) (axes_by cs f.axes) =
    eaxes ∙ ap (λ xs. filter (is_busy coords listed) xs) (eall ∙ ap (axes_by cs) eown) ∙ ap (λ ys. filter (is_busy ys listed) (axes_by cs f.axes)) ecoords ∙ ap (λ us. filter (is_busy (coords_by keeps cs s.coords) us) (axes_by cs f.axes)) elisted in
    let out_eq : out ≡ ws = eout ∙ ap (with_variables []) elisted ∙ put_behind [] ws (distinct old new k least keeps cs fill s f is ws here) in
    subst (λ (d : Dataset). IsSetOf new (set_filled k least keeps cs fill (framed_in old s f)) d × AddsForAnySet old new (dataset_in new d))
    (λ i. record { axes = sym axes_eq i; coords = sym ecoords i; vars = sym out_eq i; attrs = sym eattrs i; skipped = sym eskipped i })
    (set_of old new k least keeps cs fill s f is ws here, subst (AddsForAnySet old new) (sym (means_is old new k least keeps cs fill s f is ws here)) (set_room old new k least keeps cs fill s f is ws here added))
