-- What has new labels is as it has to be.
use Rattle.xr_changing.proofs.Common.{All, AllByRecursion, AreCells, AreIndexed, AreThere, Array, Axis, Bool, Change, ContentFits, Coord, CoordFits, IsCell, IsContent, IsCoordinate, IsDimension, IsRenewed, List, None, Option, StepsFit, TakesFit, [], among, and_parts, ap, are_distinct, are_within, arith, axes_called, axis_called, axis_names, bytes_eq, bytes_eq_swap, called_here, called_name, called_on, cases_Bool, change_called, changed_axis, changed_cells, changed_content, changed_coord, cond, each_map, each_weaker, false, fill_along, front_among, greatest, has_hole, inl, inr, is_none, is_within, leb-true, length, length-map, list_all, map, map-map, masked_along, most_cells, most_dimensions, mul-le, named_in, names_of, names_there, nat_le, new_axis, or_parts, refl, shape_over, size, sizes_again, sizes_named, span, span_above, steps_along, steps_cells, steps_value, subst, sym, the_axes, true, ℕ, ℤ, ◌&&◌, ◌*◌, ◌++◌, ◌||◌, ◌∙◌, ◌∷◌, ◌≡◌, ◌≤◌}
use Rattle.xr_defs.specs.declared.value.Content.{Content}
use Rattle.xr_defs.specs.declared.value.Content.TheVariants as contents
use Rattle.xr_parts.specs.Frames.{IsThere}
use Rattle.xr_changing.proofs.NewAxes.{name_kept, names_kept}
use Rattle.xr_changing.proofs.Stepping.{all_along, value_along, IsAlong}

-- ---- limits

pub within : (s : List ℕ) → is_within s ≡ true → (length s ≤ most_dimensions) × (list_all (λ n. nat_le n most_cells) s ≡ true) × (size s ≤ most_cells)
within s e =
    let parts = and_parts _ _ e in
    let rest = and_parts _ _ parts.1 in
    (leb-true (length s) most_dimensions parts.0, rest.0, leb-true (size s) most_cells rest.1)

-- ---- the axis of a name

pub called_new : (cs : List Change) (xs : List Axis) (n : List ℕ) → among (axis_names xs) n ≡ true → axis_called (map (new_axis cs) xs) n ≡ new_axis cs (axis_called xs n)
called_new cs [] n has = absurd cc
called_new cs (x ∷ xs) n has =
    let same = ap (λ m. bytes_eq m n) (name_kept cs x) in
    elim (cases_Bool (bytes_eq x.name n)) [
      | inl e ↦ called_here (new_axis cs x) (map (new_axis cs) xs) n (same ∙ e) ∙ ap (new_axis cs) (sym (called_here x xs n e))
      | inr e ↦
          let other : bytes_eq n x.name ≡ false = bytes_eq_swap n x.name ∙ e in
          called_on (new_axis cs x) (map (new_axis cs) xs) n (same ∙ e) ∙ called_new cs xs n (ap (λ b. b || among (axis_names xs) n) (sym other) ∙ has) ∙ ap (new_axis cs) (sym (called_on x xs n e))
    ]

pub new_dims : (cs : List Change) (xs : List Axis) → AllByRecursion IsDimension xs → AreIndexed cs xs → list_all (λ n. nat_le n most_cells) (shape_over (map (new_axis cs) xs)) ≡ true → AllByRecursion IsDimension (map (new_axis cs) xs)
new_dims cs [] all indexed short = tt
new_dims cs (x ∷ xs) all indexed short =
    let parts = and_parts (nat_le (new_axis cs x).size most_cells) (list_all (λ n. nat_le n most_cells) (shape_over (map (new_axis cs) xs))) short in
    let low = leb-true (new_axis cs x).size most_cells parts.0 in
    (record { name = ap (λ n. Rattle.xr_files.specs.Classic.is_name n) (name_kept cs x) ∙ all.0.name; few = omega arith; index = indexed.0 all.0.index }, new_dims cs xs all.1 indexed.1 parts.1)

-- the new axes of a coordinate, by their names

pub coords_renewed : (cs : List Change) (axes mine news : List Axis) (coords others : List Coord) → mine ≡ axes → others ≡ coords → news ≡ map (new_axis cs) mine → AllByRecursion (IsCoordinate axes) coords → AllByRecursion (IsRenewed cs news) others
coords_renewed cs axes mine news coords others m o n all =
    rw (n, m, o)
    (each_weaker (IsCoordinate axes) (IsRenewed cs (map (new_axis cs) axes)) coords
    (λ c is. each_weaker (IsThere axes) (λ (x : Axis). axis_called (map (new_axis cs) axes) x.name ≡ new_axis cs x) c.axes (λ x there. called_new cs axes x.name there.0 ∙ ap (new_axis cs) there.1) is.over) all)

pub axes_renewed : (cs : List Change) (news xs : List Axis) → AllByRecursion (λ (x : Axis). axis_called news x.name ≡ new_axis cs x) xs → axes_called news (axis_names xs) ≡ map (new_axis cs) xs
axes_renewed cs news [] all = refl
axes_renewed cs news (x ∷ xs) all = λ i. all.0 i ∷ axes_renewed cs news xs all.1 i

-- the new sizes of axes, by their names
pub sizes_new : (cs : List Change) (axes : List Axis) (dims : List (List ℕ)) → AreThere (axis_names axes) dims → shape_over (map (new_axis cs) (axes_called axes dims)) ≡ sizes_named (map (new_axis cs) axes) dims
sizes_new cs axes [] there = refl
sizes_new cs axes (d ∷ dims) there = sym (λ i. (called_new cs axes d there.0 i).size ∷ sym (sizes_new cs axes dims there.1) i)

over_new : (cs : List Change) (axes xs : List Axis) → AllByRecursion (IsThere axes) xs → AllByRecursion (IsThere (map (new_axis cs) axes)) (map (new_axis cs) xs)
over_new cs axes xs all =
    each_map (IsThere axes) (IsThere (map (new_axis cs) axes)) (new_axis cs) xs
    (λ x there. (
      ap (λ ns. among ns (new_axis cs x).name) (names_kept cs axes) ∙ ap (among (axis_names axes)) (name_kept cs x) ∙ there.0,
      ap (axis_called (map (new_axis cs) axes)) (name_kept cs x) ∙ called_new cs axes x.name there.0 ∙ ap (new_axis cs) there.1,
    )) all

-- ---- cells along new axes

filled : (h : Bool) (fill : Option ℤ) → (h && is_none fill) ≡ false → (h && is_none (cond h fill None)) ≡ false
filled true fill e = e
filled false fill e = refl

-- the cells that steps make along dimensions of some of these axes, of new sizes
pub record IsChangedTo (cs : List Change) (fill : Option ℤ) (axes : List Axis) (dims : List (List ℕ)) (ms : List ℕ) (masked : Bool) (a : Array) : Type 0 where
  pub value : steps_value (steps_along cs fill dims) a ≡ changed_cells cs dims fill a
  pub shape : (changed_cells cs dims fill a).shape ≡ ms
  pub kind : (changed_cells cs dims fill a).kind ≡ a.kind
  pub cells : is_within ms ≡ true → AreCells ms a.kind (masked_along cs dims fill masked) (changed_cells cs dims fill a).cells
  pub fits : StepsFit (steps_along cs fill dims) a
  pub few : steps_cells (steps_along cs fill dims) a ≤ 16 * span (axes ++ map (new_axis cs) axes)

new_size : (cs : List Change) (axes : List Axis) (d : List ℕ) → among (axis_names axes) d ≡ true → (axis_called (map (new_axis cs) axes) d).size ≡ (changed_axis (axis_called axes d) (change_called cs d)).size
new_size cs axes d has = ap (λ (x : Axis). x.size) (called_new cs axes d has) ∙ (λ i. (changed_axis (axis_called axes d) (change_called cs (called_name axes d has i))).size)

pub changed_named : (cs : List Change) (fill : Option ℤ) (axes : List Axis) (dims : List (List ℕ)) (masked : Bool) (a : Array) → AreThere (axis_names axes) dims → are_distinct dims ≡ true → a.shape ≡ sizes_named axes dims → AreCells a.shape a.kind masked a.cells → TakesFit (steps_along cs fill dims) a.shape a.kind
    → IsChangedTo cs fill axes dims (sizes_named (map (new_axis cs) axes) dims) masked a
changed_named cs fill axes dims masked a there distinct shape is fit =
    let news = map (new_axis cs) axes in
    let most = span (axes ++ news) in
    let hides = masked_along cs dims fill masked in
    let plain = λ (e : hides ≡ false). or_parts masked (has_hole cs dims && is_none fill) e in
    let within_span = span_above (greatest (axes ++ news)) dims (axes ++ news) distinct (λ n e. front_among axes news n (named_in axes dims n there e)) (λ n. omega arith) in
    let sizes = each_weaker (λ d. among (axis_names axes) d ≡ true) (λ d. (axis_called news d).size ≡ (changed_axis (axis_called axes d) (change_called cs d)).size) dims (new_size cs axes) there in
    let r = all_along cs (fill_along cs dims fill) hides axes most dims sizes (λ e. filled (has_hole cs dims) fill (plain e).1) [] 0 a refl shape is.low_rank within_span fit (record { whole = is.whole; range = is.range; seen = λ e. is.seen (plain e).0 }) in
    let value : steps_value (steps_along cs fill dims) a ≡ changed_cells cs dims fill a = value_along cs (fill_along cs dims fill) 0 dims a in
    let to = subst (λ b. IsAlong hides (steps_along cs fill dims) a b (sizes_named news dims) (length dims * most)) value r in
    record {
      value = value;
      shape = to.shape;
      kind = to.kind;
      cells = λ e. let limits = within (sizes_named news dims) e in record { whole = to.all.whole ∙ ap size to.shape; range = subst (λ t. All (IsCell t) (changed_cells cs dims fill a).cells) to.kind to.all.range; seen = to.all.seen; low_rank = limits.0; few = limits.2 };
      fits = to.fits;
      few =
          let rank = ap length shape ∙ length-map dims (λ d. (axis_called axes d).size) in
          let low = is.low_rank in
          let up = mul-le (length dims) most 16 most (omega arith) (omega arith) in
          let few = to.few in
          omega (arith, up, few);
    }

-- of axes that are there
sizes_there : (axes xs : List Axis) → AllByRecursion (IsThere axes) xs → sizes_named axes (axis_names xs) ≡ shape_over xs
sizes_there axes xs there = sym (sizes_again axes (axis_names xs)) ∙ ap shape_over (the_axes axes xs there)

pub changed_over : (cs : List Change) (fill : Option ℤ) (axes xs : List Axis) (masked : Bool) (a : Array) → AllByRecursion (IsThere axes) xs → are_distinct (axis_names xs) ≡ true → a.shape ≡ shape_over xs → AreCells a.shape a.kind masked a.cells → TakesFit (steps_along cs fill (axis_names xs)) a.shape a.kind
    → IsChangedTo cs fill axes (axis_names xs) (shape_over (map (new_axis cs) xs)) masked a
changed_over cs fill axes xs masked a there distinct shape is fit =
    let news = map (new_axis cs) axes in
    let to = map (new_axis cs) xs in
    subst (λ ms. IsChangedTo cs fill axes (axis_names xs) ms masked a) (ap (sizes_named news) (sym (names_kept cs xs)) ∙ sizes_there news to (over_new cs axes xs there))
    (changed_named cs fill axes (axis_names xs) masked a (names_there axes xs there) distinct (shape ∙ sym (sizes_there axes xs there)) is fit)

-- ---- coordinates

no_axes : (cs : List Change) (xs : List Axis) → shape_over xs ≡ [] → shape_over (map (new_axis cs) xs) ≡ []
no_axes cs [] e = refl
no_axes cs (x ∷ xs) e = absurd cc

content_formed : (cs : List Change) (fill : Option ℤ) (axes xs : List Axis) (c : Content) → AllByRecursion (IsThere axes) xs → are_distinct (axis_names xs) ≡ true → ContentFits cs fill (axis_names xs) c → IsContent (shape_over xs) c → is_within (shape_over (map (new_axis cs) xs)) ≡ true
    → IsContent (shape_over (map (new_axis cs) xs)) (changed_content cs (axis_names xs) fill c)
content_formed cs fill axes xs (contents.Cells a masked) there distinct fit is e =
    let to = changed_over cs fill axes xs masked a there distinct is.0 (subst (λ s. AreCells s a.kind masked a.cells) (sym is.0) is.1) fit in
    (to.shape, subst (λ t. AreCells (shape_over (map (new_axis cs) xs)) t (masked_along cs (axis_names xs) fill masked) (changed_cells cs (axis_names xs) fill a).cells) (sym to.kind) (to.cells e))
content_formed cs fill axes xs (contents.Text t) there distinct fit is e = no_axes cs xs is
content_formed cs fill axes xs (contents.Time coding t) there distinct fit is e = (no_axes cs xs is.0, is.1)

coord_formed : (cs : List Change) (fill : Option ℤ) (axes : List Axis) (c : Coord) → IsCoordinate axes c → CoordFits cs fill c → is_within (shape_over (map (new_axis cs) c.axes)) ≡ true → IsCoordinate (map (new_axis cs) axes) (changed_coord cs fill c)
coord_formed cs fill axes c is fit e = record {
  name = is.name;
  over = over_new cs axes c.axes is.over;
  distinct = ap are_distinct (names_kept cs c.axes) ∙ is.distinct;
  attrs = is.attrs;
  content = content_formed cs fill axes c.axes c.content is.over is.distinct fit is.content e;
}

pub coords_formed : (cs : List Change) (fill : Option ℤ) (axes : List Axis) (coords : List Coord) → AllByRecursion (IsCoordinate axes) coords → AllByRecursion (CoordFits cs fill) coords → are_within (map (changed_coord cs fill) coords) ≡ true
    → AllByRecursion (IsCoordinate (map (new_axis cs) axes)) (map (changed_coord cs fill) coords)
coords_formed cs fill axes [] is fit e = tt
coords_formed cs fill axes (c ∷ coords) is fit e =
    let parts = and_parts (is_within (shape_over (map (new_axis cs) c.axes))) (are_within (map (changed_coord cs fill) coords)) e in
    (coord_formed cs fill axes c is.0 fit.0 parts.0, coords_formed cs fill axes coords is.1 fit.1 parts.1)

pub coord_names : (cs : List Change) (fill : Option ℤ) (coords : List Coord) → names_of (map (changed_coord cs fill) coords) ≡ names_of coords
coord_names cs fill = map-map (λ (c : Coord). c.name) (changed_coord cs fill)
