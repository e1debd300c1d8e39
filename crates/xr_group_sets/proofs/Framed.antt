-- The axes and coordinates of what is grouped.
use Rattle.std.proofs.Common.{◌≡◌, ◌||◌, ◌&&◌, ◌==◌, ℕ, Bool, true, false, not, cond, inl, inr, ◌⊎◌, List, [], ◌∷◌, map, get_or, Option, Some, None, Result, Ok, Err, refl, sym, ap, subst, ◌∙◌}
use Rattle.std.specs.Prelude.{nat_le, ◌%◌}
use Rattle.std.specs.Str.{bytes_eq}
use Rattle.std.specs.List.{AllByRecursion, list_any}
use Rattle.std.proofs.lemmas.Bool.{not-true, or_parts}
use Rattle.xr_types.specs.Names.{among, are_distinct, axis_names}
use Rattle.xr_types.specs.Results.{◌>>=◌, unless, all_of}
use Rattle.xr_types.specs.declared.axis.Axis.{Axis}
use Rattle.xr_types.specs.declared.fault.Fault.{Fault}
use Rattle.xr_types.specs.declared.fault.Fault.TheVariants.{BadArgument, NoDimension}
use Rattle.xr_types.specs.declared.operation.FoldKind.{FoldKind}
use Rattle.xr_types.specs.declared.operation.FoldKind.TheVariants.{Sum, Prod, Min, Max, First, Last, ArgMin, ArgMax, Count, Any, All}
use Rattle.xr_arrays.specs.Nodes.{is_positional}
use Rattle.xr_defs.specs.declared.value.Coord.{Coord}
use Rattle.xr_defs.specs.declared.grouping.BlockSize.{BlockSize}
use Rattle.xr_defs.specs.declared.grouping.Grouping.{Grouping}
use Rattle.xr_defs.specs.declared.grouping.Grouping.TheVariants.{Dates, Coordinate, Bins, Windows, Blocks}
use Rattle.xr_defs.specs.Selecting.{axis_called}
use Rattle.xr_defs.specs.Values.{axis_position, no_axis}
use Rattle.xr_defs.specs.WellFormed.{names_of, IsCoordinate, IsDimension}
use Rattle.xr_parts.specs.Frames.{IsFrame, IsThere}
use Rattle.xr_parts.proofs.Axes.{called_name, own_axes}
use Rattle.xr_parts.proofs.Words.{AreAbsent, absent_left, distinct_cons, distinct_left, distinct_parts, each_left, each_named_left, join, neither, same_text, split}
use Rattle.xr_values.proofs.Named.{bytes_eq_swap}
use Rattle.xr_operations.specs.Reductions.{coords_left}
use Rattle.xr_groups.specs.declared.change.Change.{Change}
use Rattle.xr_groups.specs.Groupings.{axis_found, block_change, block_changes, changes_of, check_labels, check_multiple, check_name, check_sums, check_there, grouped_changes, have_size, is_func, one_change, window_change}
use Rattle.xr_groups.specs.Blocks.{windows}
use Rattle.xr_groups.specs.Listed.{axes_by, axis_by, coords_by, dim_by, dimensions}
use Rattle.xr_groups.specs.Methods.{has_method, keeps_coords, of_blocks, of_groups, of_windows}
use Rattle.xr_grouping.specs.Changes.{IsChange, IsNewName}
use Rattle.xr_group_sets.proofs.Fed.{axis_fed, called_after, names_by}
use Rattle.xr_group_sets.proofs.OneVar.{axis_stays, dim_stays}

-- ---- names of which one has another in its place

module _ (d n : List ℕ) where
  abbrev put : List ℕ → List ℕ
  put m = cond (bytes_eq m d) n m

  absent_in : (ns : List (List ℕ)) (m : List ℕ) → among ns m ≡ false → bytes_eq m n ≡ false → among (map put ns) m ≡ false
  absent_in [] m none fresh = refl
  absent_in (e ∷ es) m none fresh =
      let parts = or_parts (bytes_eq m e) (among es m) none in
      neither (bytes_eq m (put e)) (among (map put es) m) (by (bytes_eq e d) parts.0) (absent_in es m parts.1 fresh)
    where
      by : (b : Bool) → bytes_eq m e ≡ false → bytes_eq m (cond b n e) ≡ false
      by true other = fresh
      by false other = other

  unchanged : (ns : List (List ℕ)) → among ns d ≡ false → map put ns ≡ ns
  unchanged [] none = refl
  unchanged (e ∷ es) none =
      let parts = or_parts (bytes_eq d e) (among es d) none in
      ap (λ b. cond b n e ∷ map put es) (bytes_eq_swap e d ∙ parts.0) ∙ ap (λ ns. e ∷ ns) (unchanged es parts.1)

  distinct_in : (ns : List (List ℕ)) → are_distinct ns ≡ true → among ns n ≡ false → are_distinct (map put ns) ≡ true
  distinct_in [] distinct fresh = refl
  distinct_in (e ∷ es) distinct fresh =
      let parts = distinct_parts e es distinct in
      let lacks = or_parts (bytes_eq n e) (among es n) fresh in
      distinct_cons (put e) (map put es) (by (bytes_eq e d) refl parts.0 lacks) (distinct_in es parts.1 lacks.1)
    where
      by : (b : Bool) → bytes_eq e d ≡ b → among es e ≡ false → (bytes_eq n e ≡ false) × (among es n ≡ false) → among (map put es) (cond b n e) ≡ false
      by true same none lacks = ap (λ ns. among ns n) (unchanged es (ap (among es) (sym (same_text e d same)) ∙ none)) ∙ lacks.1
      by false same none lacks = absent_in es e none (bytes_eq_swap e n ∙ lacks.0)

-- ---- names afterwards

-- one dimension has a name that nothing else has, or all keep theirs
pub record IsRenamed (axes : List Axis) (coords : List Coord) (cs : List Change) (c : Change) : Type 0 where
  pub is : cs ≡ c ∷ []
  pub fresh : among (axis_names axes) c.axis.name ≡ false
  pub free : among (names_of (coords_left (c.dimension ∷ []) coords)) c.axis.name ≡ false

abbrev pub IsNamed : Change → Type 0
IsNamed c = c.axis.name ≡ c.dimension

abbrev pub AreNamed : List Axis → List Coord → List Change → Type 0
AreNamed axes coords cs = AllByRecursion IsNamed cs ⊎ ((c : Change) × IsRenamed axes coords cs c)

same_dim : (cs : List Change) → AllByRecursion IsNamed cs → (m : List ℕ) → dim_by cs m ≡ m
same_dim [] all m = refl
same_dim (c ∷ cs) all m = by (bytes_eq m c.dimension) refl (same_dim cs all.1 m)
  where
    by : (b : Bool) → bytes_eq m c.dimension ≡ b → dim_by cs m ≡ m → cond b c.axis.name (dim_by cs m) ≡ m
    by true e rest = all.0 ∙ sym (same_text m c.dimension e)
    by false e rest = rest

same_dims : (cs : List Change) → AllByRecursion IsNamed cs → (ms : List (List ℕ)) → map (dim_by cs) ms ≡ ms
same_dims cs all [] = refl
same_dims cs all (m ∷ ms) = ap (λ n. n ∷ map (dim_by cs) ms) (same_dim cs all m) ∙ ap (λ ns. m ∷ ns) (same_dims cs all ms)

module _ (axes : List Axis) (coords : List Coord) (cs : List Change) (named : AreNamed axes coords cs) (distinct : are_distinct (axis_names axes) ≡ true) where
  pub distinct_after : are_distinct (axis_names (axes_by cs axes)) ≡ true
  distinct_after = ap are_distinct (names_by cs axes) ∙ by named
    where
      by : AreNamed axes coords cs → are_distinct (map (dim_by cs) (axis_names axes)) ≡ true
      by (inl all) = ap are_distinct (same_dims cs all (axis_names axes)) ∙ distinct
      by (inr one) = subst (λ ds. are_distinct (map (dim_by ds) (axis_names axes)) ≡ true) (sym one.1.is) (distinct_in one.0.dimension one.0.axis.name (axis_names axes) distinct one.1.fresh)

  -- names of coordinates that stay
  coords_apart : (ms : List (List ℕ)) → AreAbsent (axis_names axes) ms → ((c : Change) → IsRenamed axes coords cs c → among ms c.axis.name ≡ false) → AreAbsent (axis_names (axes_by cs axes)) ms
  coords_apart [] apart free = tt
  coords_apart (m ∷ ms) apart free = (
    ap (λ ns. among ns m) (names_by cs axes) ∙ by named,
    coords_apart ms apart.1 (λ c one. (or_parts (bytes_eq c.axis.name m) (among ms c.axis.name) (free c one)).1),
  )
    where
      by : AreNamed axes coords cs → among (map (dim_by cs) (axis_names axes)) m ≡ false
      by (inl all) = ap (λ ns. among ns m) (same_dims cs all (axis_names axes)) ∙ apart.0
      by (inr one) =
          let other = (or_parts (bytes_eq one.0.axis.name m) (among ms one.0.axis.name) (free one.0 one.1)).0 in
          subst (λ ds. among (map (dim_by ds) (axis_names axes)) m ≡ false) (sym one.1.is) (absent_in one.0.dimension one.0.axis.name (axis_names axes) m apart.0 (bytes_eq_swap m one.0.axis.name ∙ other))

-- ---- axes and coordinates afterwards

module _ (axes : List Axis) (coords : List Coord) (others : List (List ℕ)) (cs : List Change) (frame : IsFrame axes coords) (all : AllByRecursion (IsChange axes coords others) cs) (named : AreNamed axes coords cs) where
  abbrev after : List Axis
  after = axes_by cs axes

  distinct : are_distinct (axis_names (axes_by cs axes)) ≡ true
  distinct = distinct_after axes coords cs named frame.dims.distinct

  dims_after : (xs : List Axis) → AllByRecursion (IsThere axes) xs → AllByRecursion IsDimension xs → AllByRecursion IsDimension (axes_by cs xs)
  dims_after [] there each = tt
  dims_after (x ∷ xs) there each = ((axis_fed axes coords others cs x there.0 each.0 all).dimension, dims_after xs there.1 each.1)

  there_after : (ys : List Axis) → list_any (among (dimensions cs)) (axis_names ys) ≡ false → AllByRecursion (IsThere axes) ys → AllByRecursion (IsThere (axes_by cs axes)) ys
  there_after [] none there = tt
  there_after (y ∷ ys) none there =
      let parts = or_parts (among (dimensions cs) y.name) (list_any (among (dimensions cs)) (axis_names ys)) none in
      let one = called_after cs axes distinct y.name there.0.0 in
      let dim = dim_stays cs y.name parts.0 in (
        (ap (among (axis_names (axes_by cs axes))) (sym dim) ∙ one.0, ap (axis_called (axes_by cs axes)) (sym dim) ∙ one.1 ∙ ap (axis_by cs) there.0.1 ∙ axis_stays cs y parts.0),
        there_after ys parts.1 there.1,
      )

  abbrev stay : Coord → Bool
  stay c = not (list_any (among (dimensions cs)) (axis_names c.axes))

  pub frame_left : IsFrame (axes_by cs axes) (coords_left (dimensions cs) coords)
  frame_left =
      let both = split (axis_names axes) (names_of coords) frame.distinct in
      record {
        dims = record { each = dims_after axes (own_axes axes frame.dims.distinct) frame.dims.each; distinct = distinct };
        over = each_left (IsCoordinate axes) (IsCoordinate (axes_by cs axes)) stay
            (λ c e at. record { name = at.name; over = there_after c.axes (not-true (list_any (among (dimensions cs)) (axis_names c.axes)) e) at.over; distinct = at.distinct; attrs = at.attrs; content = at.content }) coords frame.over;
        distinct = join (axis_names (axes_by cs axes)) (names_of (coords_left (dimensions cs) coords)) (record {
          first = distinct;
          second = distinct_left (λ (c : Coord). c.name) stay coords both.second;
          apart = coords_apart axes coords cs named frame.dims.distinct (names_of (coords_left (dimensions cs) coords)) (each_named_left (λ (c : Coord). c.name) stay (λ m. among (axis_names axes) m ≡ false) coords both.apart)
              (λ c one. subst (λ ds. among (names_of (coords_left (dimensions ds) coords)) c.axis.name ≡ false) (sym one.is) one.free);
        });
      }

-- ---- one change alone

none_of : (a b e : Bool) → not (a || b || e) ≡ true → (a ≡ false) × (b ≡ false)
none_of true b e h = absurd cc
none_of false true e h = absurd cc
none_of false false e h = (refl, refl)

never : (b : Bool) → b ≡ true → b ≡ false → ⊥
never b s t = cc

pub one_named : (axes : List Axis) (coords : List Coord) (others : List (List ℕ)) (c : Change) → IsFrame axes coords → IsChange axes coords others c → AreNamed axes coords (c ∷ [])
one_named axes coords others c frame is = by is.named
  where
    stay : Coord → Bool
    stay x = not (list_any (among (c.dimension ∷ [])) (axis_names x.axes))

    of_coord : (ms : List (List ℕ)) (n : List ℕ) → among ms n ≡ true → AreAbsent (axis_names axes) ms → among (axis_names axes) n ≡ false
    of_coord [] n has apart = absurd cc
    of_coord (m ∷ ms) n has apart = pick (bytes_eq n m) refl has (of_coord ms n)
      where
        pick : (b : Bool) → bytes_eq n m ≡ b → (b || among ms n) ≡ true → (among ms n ≡ true → AreAbsent (axis_names axes) ms → among (axis_names axes) n ≡ false) → among (axis_names axes) n ≡ false
        pick true e has rest = ap (among (axis_names axes)) (same_text n m e) ∙ apart.0
        pick false e has rest = rest has apart.1

    by : IsNewName axes coords others c.dimension c.axis.name → AreNamed axes coords (c ∷ [])
    by (inl same) = inl (same, tt)
    by (inr (inl free)) =
        let parts = none_of (among (axis_names axes) c.axis.name) (among (names_of coords) c.axis.name) (among others c.axis.name) free in
        inr (c, record { is = refl; fresh = parts.0; free = absent_left (λ (x : Coord). x.name) stay coords c.axis.name parts.1 })
    by (inr (inr own)) = inr (c, record { is = refl; fresh = of_coord (names_of coords) c.axis.name own.0 (split (axis_names axes) (names_of coords) frame.distinct).apart; free = own.1 })

-- ---- what a grouping gives

pub record IsBound {A B : Type 0} (r : Result A Fault) (f : A → Result B Fault) (y : B) (x : A) : Type 0 where
  pub first : r ≡ Ok x
  pub then : f x ≡ Ok y

pub binds : {A B : Type 0} (r : Result A Fault) (f : A → Result B Fault) (y : B) → (r >>= f) ≡ Ok y → (x : A) × IsBound r f y x
binds (Ok x) f y e = (x, record { first = refl; then = e })
binds (Err e) f y h = absurd cc

ok_same : {A : Type 0} (x y : A) → ◌≡◌ {A = Result A Fault} (Ok x) (Ok y) → x ≡ y
ok_same x y e = cc

alone : (r : Result Change Fault) (cs : List Change) → one_change r ≡ Ok cs → (c : Change) × (cs ≡ c ∷ [])
alone r cs e = let one = binds r (λ c. Ok (c ∷ [])) cs e in (one.0, sym (ok_same (one.0 ∷ []) cs one.1.then))

pub then_of : {B : Type 0} (r : Result (Unit {0}) Fault) (s : Result B Fault) (y : B) → (r >>= λ u. s) ≡ Ok y → s ≡ Ok y
then_of (Ok u) s y e = e
then_of (Err f) s y e = absurd cc

pub found_called : (d : List ℕ) (axes : List Axis) (x : Axis) → axis_found d axes ≡ Ok x → x ≡ axis_called axes d
unfolding axis_found
found_called d axes x e = by (axis_position d axes) e
  where
    by : (o : Option ℕ) → ◌≡◌ {A = Result Axis Fault} (elim o [ None ↦ Err (NoDimension d) | Some k ↦ Ok (get_or axes k no_axis) ]) (Ok x) → x ≡ elim o [ None ↦ no_axis | Some k ↦ get_or axes k no_axis ]
    by None e = absurd cc
    by (Some k) e = sym (ok_same (get_or axes k no_axis) x e)

-- the one that windows give
pub record IsWindow (axes : List Axis) (cs : List Change) (c : Change) : Type 0 where
  pub is : cs ≡ c ∷ []
  pub axis : c.axis ≡ axis_called axes c.dimension

window_of : (d : List ℕ) (w : ℕ) (center : Bool) (axes : List Axis) (cs : List Change) → one_change (window_change d w center axes) ≡ Ok cs → (c : Change) × IsWindow axes cs c
unfolding window_change
window_of d w center axes cs e =
    let one = binds (window_change d w center axes) (λ c. Ok (c ∷ [])) cs e in
    let found = binds (axis_found d axes) (λ x. unless (not (center && (w % 2 == 0))) BadArgument >>= λ u. Ok (record { dimension = d; lists = windows x.size w center; axis = x })) one.0 one.1.first in
    let made : Change = record { dimension = d; lists = windows found.0.size w center; axis = found.0 } in
    let same : made ≡ one.0 = ok_same made one.0 (then_of (unless (not (center && (w % 2 == 0))) BadArgument) (Ok made) one.0 found.1.then) in
    (one.0, record { is = sym (ok_same (one.0 ∷ []) cs one.1.then); axis = subst (λ (c : Change). c.axis ≡ axis_called axes c.dimension) same (found_called d axes found.0 found.1.first) })

pub blocks_of : (sizes : List BlockSize) (trim : Bool) (how : Option FoldKind) (axes : List Axis) (cs : List Change) → block_changes sizes trim how axes ≡ Ok cs → map (block_change how axes) sizes ≡ cs
unfolding block_changes
blocks_of sizes trim how axes cs e =
    let made : Result (List Change) Fault = Ok (map (block_change how axes) sizes) in
    let sums : Result (List Change) Fault = all_of (check_sums how axes) sizes >>= λ x. made in
    let labels : Result (List Change) Fault = all_of (check_labels how axes) sizes >>= λ w. sums in
    let multiples : Result (List Change) Fault = all_of (check_multiple trim axes) sizes >>= λ v. labels in
    let there : Result (List Change) Fault = all_of (check_there axes) sizes >>= λ u. multiples in
    ok_same (map (block_change how axes) sizes) cs
    (then_of (all_of (check_sums how axes) sizes) made cs (then_of (all_of (check_labels how axes) sizes) sums cs
    (then_of (all_of (check_multiple trim axes) sizes) labels cs (then_of (all_of (check_there axes) sizes) multiples cs (then_of (unless (is_func how && have_size sizes) BadArgument) there cs e)))))

blocks_named : (how : Option FoldKind) (axes : List Axis) (coords : List Coord) (others : List (List ℕ)) (sizes : List BlockSize) → AllByRecursion (IsChange axes coords others) (map (block_change how axes) sizes) → AllByRecursion IsNamed (map (block_change how axes) sizes)
blocks_named how axes coords others [] all = tt
blocks_named how axes coords others (b ∷ bs) all = (called_name axes b.dimension all.0.has, blocks_named how axes coords others bs all.1)

pub changes_are : (grouping : Grouping) (axes : List Axis) (coords : List Coord) (others : List (List ℕ)) (cs : List Change) → grouped_changes grouping axes coords others ≡ Ok cs → changes_of grouping axes coords ≡ Ok cs
unfolding grouped_changes
changes_are grouping axes coords others cs e =
    let all = binds (changes_of grouping axes coords) (λ ds. check_name axes coords others grouping >>= λ u. Ok ds) cs e in
    all.1.first ∙ ap Ok (ok_same all.0 cs (then_of (check_name axes coords others grouping) (Ok all.0) cs all.1.then))

-- ---- folds that look at positions have one dimension

no_windows : (k : FoldKind) → of_windows k ≡ true → is_positional k ≡ true → ⊥
no_windows Sum m e = cc
no_windows Prod m e = cc
no_windows Min m e = cc
no_windows Max m e = cc
no_windows First m e = cc
no_windows Last m e = cc
no_windows ArgMin m e = cc
no_windows ArgMax m e = cc
no_windows Count m e = cc
no_windows Any m e = cc
no_windows All m e = cc

no_blocks : (k : FoldKind) → of_blocks k ≡ true → is_positional k ≡ true → ⊥
no_blocks Sum m e = cc
no_blocks Prod m e = cc
no_blocks Min m e = cc
no_blocks Max m e = cc
no_blocks First m e = cc
no_blocks Last m e = cc
no_blocks ArgMin m e = cc
no_blocks ArgMax m e = cc
no_blocks Count m e = cc
no_blocks Any m e = cc
no_blocks All m e = cc

windows_are : (k : FoldKind) → of_windows k ≡ true → of_groups k ≡ true
windows_are Sum m = refl
windows_are Prod m = refl
windows_are Min m = refl
windows_are Max m = refl
windows_are First m = refl
windows_are Last m = refl
windows_are ArgMin m = absurd cc
windows_are ArgMax m = absurd cc
windows_are Count m = refl
windows_are Any m = refl
windows_are All m = refl

blocks_are : (k : FoldKind) → of_blocks k ≡ true → of_groups k ≡ true
blocks_are Sum m = refl
blocks_are Prod m = refl
blocks_are Min m = refl
blocks_are Max m = refl
blocks_are First m = refl
blocks_are Last m = refl
blocks_are ArgMin m = absurd cc
blocks_are ArgMax m = absurd cc
blocks_are Count m = refl
blocks_are Any m = refl
blocks_are All m = refl

-- what some grouping has, groups have
pub methods_of : (grouping : Grouping) (k : FoldKind) → has_method grouping k ≡ true → of_groups k ≡ true
methods_of (Dates d field) k m = m
methods_of (Coordinate name) k m = m
methods_of (Bins d freq) k m = m
methods_of (Windows d w center least) k m = windows_are k m
methods_of (Blocks sizes trim how) k m = blocks_are k m

alone_of : (grouping : Grouping) (k : FoldKind) (axes : List Axis) (coords : List Coord) (cs : List Change) → has_method grouping k ≡ true → is_positional k ≡ true → changes_of grouping axes coords ≡ Ok cs → (c : Change) × (cs ≡ c ∷ [])
unfolding changes_of
alone_of (Dates d field) k axes coords cs m e h = alone _ cs h
alone_of (Coordinate name) k axes coords cs m e h = alone _ cs h
alone_of (Bins d freq) k axes coords cs m e h = alone _ cs h
alone_of (Windows d w center least) k axes coords cs m e h = absurd (no_windows k m e)
alone_of (Blocks sizes trim how) k axes coords cs m e h = absurd (no_blocks k m e)

-- ---- what stands in the places of the axes and the coordinates

module _ (axes : List Axis) (coords : List Coord) (others : List (List ℕ)) (cs : List Change) (frame : IsFrame axes coords) (all : AllByRecursion (IsChange axes coords others) cs) where
  one_of : (c : Change) × (cs ≡ c ∷ []) → AreNamed axes coords cs
  one_of (c, is) = subst (AreNamed axes coords) (sym is) (one_named axes coords others c frame (subst (AllByRecursion (IsChange axes coords others)) is all).0)

  left_by : AreNamed axes coords cs → IsFrame (axes_by cs axes) (coords_left (dimensions cs) coords)
  left_by named = frame_left axes coords others cs frame all named

  window_axes : (c : Change) → c.axis ≡ axis_called axes c.dimension → (xs : List Axis) → AllByRecursion (IsThere axes) xs → axes_by (c ∷ []) xs ≡ xs
  window_axes c own [] there = refl
  window_axes c own (x ∷ xs) there = ap (λ y. y ∷ axes_by (c ∷ []) xs) (by (bytes_eq x.name c.dimension) refl) ∙ ap (λ ys. x ∷ ys) (window_axes c own xs there.1)
    where
      by : (b : Bool) → bytes_eq x.name c.dimension ≡ b → cond b c.axis x ≡ x
      by true e = own ∙ ap (axis_called axes) (sym (same_text x.name c.dimension e)) ∙ there.0.1
      by false e = refl

  frame_of : (grouping : Grouping) → changes_of grouping axes coords ≡ Ok cs → IsFrame (axes_by cs axes) (coords_by (keeps_coords grouping) cs coords)
  unfolding changes_of
  frame_of (Dates d field) h = left_by (one_of (alone _ cs h))
  frame_of (Coordinate name) h = left_by (one_of (alone _ cs h))
  frame_of (Bins d freq) h = left_by (one_of (alone _ cs h))
  frame_of (Windows d w center least) h =
      let one = window_of d w center axes cs (then_of (unless (nat_le 1 least) BadArgument) (one_change (window_change d w center axes)) cs h) in
      subst (λ xs. IsFrame xs coords) (sym (ap (λ ds. axes_by ds axes) one.1.is ∙ window_axes one.0 one.1.axis axes (own_axes axes frame.dims.distinct))) frame
  frame_of (Blocks sizes trim how) h =
      let same = blocks_of sizes trim how axes cs h in
      left_by (inl (subst (AllByRecursion IsNamed) same (blocks_named how axes coords others sizes (subst (AllByRecursion (IsChange axes coords others)) (sym same) all))))

-- ---- what a grouping gives

pub frame_after : (grouping : Grouping) (axes : List Axis) (coords : List Coord) (others : List (List ℕ)) (cs : List Change) → IsFrame axes coords → grouped_changes grouping axes coords others ≡ Ok cs → AllByRecursion (IsChange axes coords others) cs
    → IsFrame (axes_by cs axes) (coords_by (keeps_coords grouping) cs coords)
frame_after grouping axes coords others cs frame e all = frame_of axes coords others cs frame all grouping (changes_are grouping axes coords others cs e)

pub alone_by : (grouping : Grouping) (k : FoldKind) (axes : List Axis) (coords : List Coord) (others : List (List ℕ)) (cs : List Change) → has_method grouping k ≡ true → grouped_changes grouping axes coords others ≡ Ok cs → is_positional k ≡ true → (c : Change) × (cs ≡ c ∷ [])
alone_by grouping k axes coords others cs m h e = alone_of grouping k axes coords cs m e (changes_are grouping axes coords others cs h)
