-- Groups by the labels of an index or by the cells of a coordinate are as they have to be.
use Rattle.std.proofs.Common.{inl, inr, ◌≡◌, ◌<◌, ◌≤◌, ◌||◌, ◌&&◌, not, ℕ, zero, suc, ℤ, pos, Bool, true, false, cond, List, [], ◌∷◌, ◌++◌, length, map, find, Option, Some, None, is_some, All, Result, Ok, Err, refl, sym, ap, subst, ◌∙◌, arith}
use Rattle.std.specs.Prelude.{⊤, MatchOption}
use Rattle.std.specs.Str.{bytes_eq}
use Rattle.std.specs.List.{AllByRecursion, list_any}
use Rattle.std.specs.Option.{IfSome}
use Rattle.std.specs.Cmp.{IsTotalOrder}
use Rattle.std.specs.Cmp.Lexicographic.{slice_cmp}
use Rattle.std.specs.declared.cmp.Ordering.{Ordering}
use Rattle.std.specs.Ordering.{int_cmp, nat_cmp}
use Rattle.std.proofs.lemmas.Bool.{and_parts}
use Rattle.std.proofs.lemmas.Cmp.{int_cmp_total, nat_list_cmp_total}
use Rattle.xr_types.specs.Names.{among, are_distinct, axis_names, shape_over}
use Rattle.xr_types.specs.Points.{size}
use Rattle.xr_types.specs.Results.{◌>>=◌, unless}
use Rattle.xr_types.specs.Kinds.{InRange}
use Rattle.xr_types.specs.declared.attr.Attr.{Attr}
use Rattle.xr_types.specs.declared.axis.Axis.{Axis}
use Rattle.xr_types.specs.declared.axis.Labels.{Labels}
use Rattle.xr_types.specs.declared.axis.LabelList.{LabelList}
use Rattle.xr_types.specs.declared.axis.LabelList.TheVariants.{Numbers, Times, Texts}
use Rattle.xr_types.specs.declared.axis.TimeCoding.{TimeCoding}
use Rattle.xr_types.specs.declared.fault.Fault.{Fault}
use Rattle.xr_types.specs.declared.fault.Fault.TheVariants.{BadArgument, NoVariable, WrongKind}
use Rattle.xr_types.specs.declared.kind.DType.{DType}
use Rattle.xr_arrays.specs.Arrays.{IsCell}
use Rattle.xr_arrays.specs.Nodes.{ArePositions}
use Rattle.xr_times.specs.Times.{IsTime}
use Rattle.xr_defs.specs.Building.{is_integer_kind}
use Rattle.xr_defs.specs.Parts.{is_labelled_as}
use Rattle.xr_defs.specs.Selecting.{axis_called}
use Rattle.xr_defs.specs.Values.{label_count}
use Rattle.xr_defs.specs.WellFormed.{names_of, AreAttributes, AreCells, AreLabels, IsContent, IsCoordinate, IsDimension, IsIndex}
use Rattle.xr_defs.specs.declared.value.Content.{Content}
use Rattle.xr_defs.specs.declared.value.Content.TheVariants as contents
use Rattle.xr_defs.specs.declared.value.Coord.{Coord}
use Rattle.xr_files.specs.Classic.{is_name}
use Rattle.xr_operations.specs.Reductions.{coords_left}
use Rattle.xr_parts.specs.Frames.{IsFrame, IsThere}
use Rattle.xr_parts.proofs.Axes.{called_holds, own_axes}
use Rattle.xr_parts.proofs.Words.{absent_left, distinct_parts, found_one, itself, same_text, split, IsFound}
use Rattle.xr_values.proofs.Named.{bytes_eq_swap}
use Rattle.xr_groups.specs.declared.change.Change.{Change}
use Rattle.xr_groups.specs.Groupings.{content_change, coord_over, coordinate_change, index_change, index_groups, is_called, labelled_axis, number_groups, text_groups, time_groups}
use Rattle.xr_groups.specs.Groups.{distinct, each_key, group_lists, holders}
use Rattle.xr_grouping.specs.Changes.{IsChange, IsNewName}
use Rattle.xr_grouping.proofs.Dated.{distinct_all, distinct_length, groups_fed, groups_full}
use Rattle.xr_grouping.proofs.Named.{coord_apart}
use Rattle.xr_grouping.proofs.Steps.{all_by, binds, mapped_length, ok_same, passed}

never : (b : Bool) → b ≡ true → b ≡ false → ⊥
never b s t = cc

-- what holds of all items holds of all keys
each_some : {K : Type 0} (P : K → Type 0) (xs : List K) → All P xs → AllByRecursion (λ key. IfSome key P) (each_key xs)
each_some P [] all = tt
each_some P (x ∷ xs) all = (all 0 x (omega arith), each_some P xs (λ i y lt. all (suc i) y (omega (arith, lt))))

each_cell : (kind : DType) (cells : List (Option ℤ)) → All (IsCell kind) cells → AllByRecursion (λ key. IfSome key (InRange kind)) cells
each_cell kind [] all = tt
each_cell kind (c ∷ cells) all = (one c (all 0 c (omega arith)), each_cell kind cells (λ i y lt. all (suc i) y (omega (arith, lt))))
  where
    one : (c : Option ℤ) → IsCell kind c → IfSome c (InRange kind)
    one None is = tt
    one (Some n) is = is

module _ (axes : List Axis) (coords : List Coord) (others : List (List ℕ)) (frame : IsFrame axes coords) where
  abbrev Formed : Change → Type 0
  Formed c = IsChange axes coords others c × All (λ ps. 0 < length ps) c.lists

  -- ---- keys along an axis

  pub record IsAlong (x : Axis) : Type 0 where
    pub there : IsThere axes x
    pub dimension : IsDimension x

  along : (x : Axis) → IsThere axes x → IsAlong x
  along x there =
      let holds = called_holds IsDimension x.name axes frame.dims.each there.0 in record { there = there; dimension = subst IsDimension there.1 holds.0 }

  module _ {K : Type 0} (R : K → K → Ordering) (o : IsTotalOrder R) (keys : List (Option K)) (list : LabelList) (x : Axis) (is : IsAlong x) (name : List ℕ) (attrs : List Attr) where
    abbrev grouped : Change
    grouped = record { dimension = x.name; lists = group_lists R keys; axis = labelled_axis name list (length (distinct R keys)) attrs }

    formed : length keys ≡ x.size → label_count list ≡ length (distinct R keys) → AreLabels list → is_name name ≡ true → AreAttributes attrs → IsNewName axes coords others x.name name
        → (name ≡ x.name → is_some x.labels ≡ true) → Formed grouped
    formed long whole range named are new there =
        let few = distinct_length R keys in
        let most = is.dimension.few in
        let lists = groups_fed R keys x.size long in (
          record {
            has = is.there.0;
            axis = record { name = named; few = omega (arith, few, most, long); index = record { whole = whole; range = range; attrs = are } };
            sized = sym (mapped_length (holders R keys) (distinct R keys));
            fed = subst (λ (y : Axis). All (ArePositions y.size 0) (group_lists R keys)) (sym is.there.1) lists;
            named = new;
            labelled = λ e some. ap (λ (y : Axis). is_some y.labels) is.there.1 ∙ there e;
          },
          groups_full R o keys,
        )

  keys_long : {K : Type 0} (xs : List K) → length (each_key xs) ≡ length xs
  keys_long xs = mapped_length Some xs

  -- ---- an index

  module _ (x : Axis) (is : IsAlong x) (l : Labels) (el : x.labels ≡ Some l) where
    index : IsIndex x.size l
    index = by x.labels el is.dimension.index
      where
        by : (o : Option Labels) → o ≡ Some l → MatchOption o ⊤ (IsIndex x.size) → IsIndex x.size l
        by None e i = absurd cc
        by (Some k) e i = let same : k ≡ l = cc in subst (IsIndex x.size) same i

    labelled : is_some x.labels ≡ true
    labelled = ap is_some el

    index_formed : Formed (index_groups x.name l)
    unfolding index_groups
    index_formed = by l.list index.whole index.range
      where
        by : (list : LabelList) → label_count list ≡ x.size → AreLabels list
            → Formed (elim list [ Numbers kind ns ↦ number_groups x.name x.name kind l.attrs (each_key ns) | Times coding ts ↦ time_groups x.name x.name coding l.attrs (each_key ts) | Texts ts ↦ text_groups x.name x.name l.attrs (each_key ts) ])
        by (Numbers kind ns) long range =
            formed int_cmp int_cmp_total (each_key ns) (Numbers kind (distinct int_cmp (each_key ns))) x is x.name l.attrs (keys_long ns ∙ long) refl
            (range.0, all_by (InRange kind) (distinct int_cmp (each_key ns)) (distinct_all int_cmp (InRange kind) (each_key ns) (each_some (InRange kind) ns range.1))) is.dimension.name index.attrs (inl refl) (λ e. labelled)
        by (Times coding ts) long range =
            formed int_cmp int_cmp_total (each_key ts) (Times coding (distinct int_cmp (each_key ts))) x is x.name l.attrs (keys_long ts ∙ long) refl
            (all_by (IsTime coding.units.calendar) (distinct int_cmp (each_key ts)) (distinct_all int_cmp (IsTime coding.units.calendar) (each_key ts) (each_some (IsTime coding.units.calendar) ts range))) is.dimension.name index.attrs (inl refl) (λ e. labelled)
        by (Texts ts) long range =
            formed (slice_cmp nat_cmp) nat_list_cmp_total (each_key ts) (Texts (distinct (slice_cmp nat_cmp) (each_key ts))) x is x.name l.attrs (keys_long ts ∙ long) refl tt is.dimension.name index.attrs (inl refl) (λ e. labelled)

  indexed : (x : Axis) (c : Change) → IsAlong x → index_change x ≡ Ok c → Formed c
  unfolding index_change
  indexed x c is e = by x.labels refl e
    where
      by : (o : Option Labels) → x.labels ≡ o → ◌≡◌ {A = Result Change Fault} (elim o [ None ↦ Err (NoVariable x.name) | Some l ↦ Ok (index_groups x.name l) ]) (Ok c) → Formed c
      by None eo e = absurd cc
      by (Some l) eo e = subst Formed (ok_same (index_groups x.name l) c e) (index_formed x is l eo)

  -- ---- a coordinate

  named_among : (ys : List Coord) (name : List ℕ) (c : Coord) → find (is_called name) ys ≡ Some c → among (names_of ys) c.name ≡ true
  named_among [] name c e = absurd cc
  named_among (y ∷ ys) name c e = by (bytes_eq y.name name) refl e (named_among ys name c)
    where
      right : (a b : Bool) → b ≡ true → (a || b) ≡ true
      right true b t = refl
      right false b t = t

      by : (b : Bool) → bytes_eq y.name name ≡ b → cond b (Some y) (find (is_called name) ys) ≡ Some c → (find (is_called name) ys ≡ Some c → among (names_of ys) c.name ≡ true) → (bytes_eq c.name y.name || among (names_of ys) c.name) ≡ true
      by true t e rest = let same : y ≡ c = cc in ap (λ b. b || among (names_of ys) c.name) (ap (λ (z : Coord). bytes_eq z.name y.name) (sym same) ∙ itself y.name)
      by false t e rest = right (bytes_eq c.name y.name) (among (names_of ys) c.name) (rest e)

  -- it goes with its dimension
  gone_left : (ys : List Coord) (name : List ℕ) (c : Coord) (d : List ℕ) → find (is_called name) ys ≡ Some c → are_distinct (names_of ys) ≡ true → list_any (among (d ∷ [])) (axis_names c.axes) ≡ true → among (names_of (coords_left (d ∷ []) ys)) c.name ≡ false
  gone_left [] name c d e distinct over = absurd cc
  gone_left (y ∷ ys) name c d e distinct over = by (bytes_eq y.name name) refl e (distinct_parts y.name (names_of ys) distinct) (gone_left ys name c d)
    where
      stays : Coord → Bool
      stays z = not (list_any (among (d ∷ [])) (axis_names z.axes))

      apart : among (names_of ys) y.name ≡ false → among (names_of ys) c.name ≡ true → bytes_eq c.name y.name ≡ false
      apart none has = other (bytes_eq c.name y.name) refl
        where
          other : (b : Bool) → bytes_eq c.name y.name ≡ b → b ≡ false
          other true t = absurd (never (among (names_of ys) c.name) has (ap (among (names_of ys)) (same_text c.name y.name t) ∙ none))
          other false t = refl

      left : (b : Bool) → bytes_eq c.name y.name ≡ false → among (names_of (coords_left (d ∷ []) ys)) c.name ≡ false → among (names_of (cond b (y ∷ coords_left (d ∷ []) ys) (coords_left (d ∷ []) ys))) c.name ≡ false
      left true none rest = ap (λ b. b || among (names_of (coords_left (d ∷ []) ys)) c.name) none ∙ rest
      left false none rest = rest

      by : (b : Bool) → bytes_eq y.name name ≡ b → cond b (Some y) (find (is_called name) ys) ≡ Some c → (among (names_of ys) y.name ≡ false) × (are_distinct (names_of ys) ≡ true)
          → (find (is_called name) ys ≡ Some c → are_distinct (names_of ys) ≡ true → list_any (among (d ∷ [])) (axis_names c.axes) ≡ true → among (names_of (coords_left (d ∷ []) ys)) c.name ≡ false)
          → among (names_of (cond (stays y) (y ∷ coords_left (d ∷ []) ys) (coords_left (d ∷ []) ys))) c.name ≡ false
      by true t e parts rest =
          let same : y ≡ c = cc in
          let goes : list_any (among (d ∷ [])) (axis_names y.axes) ≡ true = ap (λ (z : Coord). list_any (among (d ∷ [])) (axis_names z.axes)) same ∙ over in
          ap (λ b. among (names_of (cond (not b) (y ∷ coords_left (d ∷ []) ys) (coords_left (d ∷ []) ys))) c.name) goes
          ∙ absent_left (λ (z : Coord). z.name) stays ys c.name (ap (λ (z : Coord). among (names_of ys) z.name) (sym same) ∙ parts.0)
      by false t e parts rest = left (stays y) (apart parts.0 (named_among ys name c e)) (rest e parts.1 over)

  module _ (name : List ℕ) (k : Coord) (e : find (is_called name) coords ≡ Some k) (x : Axis) (sole : k.axes ≡ x ∷ []) where
    abbrev Coordinate : Coord → Type 0
    Coordinate z = IsCoordinate axes z

    held : Coordinate k
    held = (found_one Coordinate (is_called name) k coords frame.over e).holds

    is_along : IsAlong x
    is_along = along x ((subst (AllByRecursion (IsThere axes)) sole held.over).0)

    over_one : (b : Bool) → b ≡ true → ((b || false) || false) ≡ true
    over_one b t = ap (λ c. (c || false) || false) t

    has : among (names_of coords) k.name ≡ true
    has = named_among coords name k e

    new : IsNewName axes coords others x.name k.name
    new =
        let names = split (axis_names axes) (names_of coords) frame.distinct in
        inr (inr (has, gone_left coords name k x.name e names.second (ap (λ (xs : List Axis). list_any (among (x.name ∷ [])) (axis_names xs)) sole ∙ over_one (bytes_eq x.name x.name) (itself x.name))))

    other_name : k.name ≡ x.name → is_some x.labels ≡ true
    other_name same =
        let names = split (axis_names axes) (names_of coords) frame.distinct in
        absurd (never (among (axis_names axes) x.name) is_along.there.0 (ap (among (axis_names axes)) (sym same) ∙ coord_apart axes coords k.name names.apart has))

    one_size : (n : ℕ) → n ≡ size (shape_over (x ∷ [])) → n ≡ x.size
    one_size n long = omega (arith, long)

    by_content : (content : Content) (c : Change) → IsContent (shape_over k.axes) content → content_change x.name k content ≡ Ok c → Formed c
    unfolding content_change
    by_content (contents.Cells a masked) c is e =
        let kind = binds (unless (is_integer_kind a.kind) WrongKind) (λ u. Ok (number_groups x.name k.name a.kind k.attrs a.cells)) c e in
        let cells = is.1 in
        let long : length a.cells ≡ x.size = one_size (length a.cells) (cells.whole ∙ ap (λ (xs : List Axis). size (shape_over xs)) sole) in
        subst Formed (ok_same (number_groups x.name k.name a.kind k.attrs a.cells) c kind.2)
        (formed int_cmp int_cmp_total a.cells (Numbers a.kind (distinct int_cmp a.cells)) x is_along k.name k.attrs long refl
        (passed (is_integer_kind a.kind) WrongKind kind.0 kind.1, all_by (InRange a.kind) (distinct int_cmp a.cells) (distinct_all int_cmp (InRange a.kind) a.cells (each_cell a.kind a.cells cells.range))) held.name held.attrs new other_name)
    by_content (contents.Text t) c is e = absurd cc
    by_content (contents.Time coding t) c is e = absurd cc

  over_coord : (name : List ℕ) (k : Coord) (xs : List Axis) (c : Change) → find (is_called name) coords ≡ Some k → k.axes ≡ xs → coord_over k xs ≡ Ok c → Formed c
  unfolding coord_over
  over_coord name k [] c e sole made = absurd cc
  over_coord name k (x ∷ []) c e sole made = by_content name k e x sole k.content c (held name k e x sole).content made
  over_coord name k (x ∷ y ∷ xs) c e sole made = absurd cc

  pub keyed : (name : List ℕ) (c : Change) → coordinate_change name axes coords ≡ Ok c → Formed c
  unfolding coordinate_change
  keyed name c e = by (find (is_called name) coords) refl (find (is_labelled_as name) axes) refl e
    where
      by : (o : Option Coord) → find (is_called name) coords ≡ o → (p : Option Axis) → find (is_labelled_as name) axes ≡ p
          → ◌≡◌ {A = Result Change Fault} (elim o [ Some k ↦ coord_over k k.axes | None ↦ elim p [ None ↦ Err (NoVariable name) | Some x ↦ index_change x ] ]) (Ok c) → Formed c
      by (Some k) eo p ep e = over_coord name k k.axes c eo refl e
      by None eo None ep e = absurd cc
      by None eo (Some x) ep e = indexed x c (along x ((found_one (IsThere axes) (is_labelled_as name) x axes (own_axes axes frame.dims.distinct) ep).holds)) e
