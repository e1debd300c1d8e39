-- Where dimensions of one position go, the cells stay, and axes and coordinates are as they have to be, the labels that go among them.
use Rattle.xr_squeezing.proofs.Common.{HasFirst, Leaves, has_labels, map-map, mul-le, tab, tab-length, tab_read, All-append, All-cons, All-from_recursion, All-nil, AllByRecursion, Any-from_list_any, AreAbsent, AreAlone, AreCells, AreLabels, AreSome, Array, Axis, Bool, Content, Coord, DType, IsAlone, IsBelow, IsCell, IsContent, IsCoordinate, IsDimension, IsFrame, IsIndex, IsThere, Labels, List, MatchOption, None, Option, Some, Step, StepsFit, TakesFit, [], absent_both, among, any-filter_same, any_mapped, ap, append-nil, append_assoc, are_distinct, arith, at, axes_left, axis_called, axis_names, both_hold, bytes_eq, called_holds, called_left, called_name, cond, distinct_left, each_left, each_map, each_weaker, false, false_from_ne_true, fewer, filter, get_or, if◌then◌else◌, is_some, join, label_content, label_coord, label_count, labels_left, length, length-append, length-map, lit<, map, map-append, map-id, most_node_cells, named_left, names_of, not, not-true, own_names, picked_from, pos, recursion_from_All, refl, same_text, shape_over, size, some_both, some_left, some_same, split, squeezed_content, squeezed_coord, squeezed_coords, steps_cells, steps_value, steps_without, subst, suc, sym, true, true≢false, with_axis, without, zero, ℕ, ℤ, ⊤, ◌*◌, ◌++◌, ◌<◌, ◌∙◌, ◌∷◌, ◌≡◌, ◌≤◌}
use Rattle.xr_types.specs.declared.axis.LabelList.{LabelList}
use Rattle.xr_types.specs.declared.axis.LabelList.TheVariants.{Numbers, Texts, Times}
use Rattle.xr_defs.specs.declared.value.Content.TheVariants as contents
use Rattle.plan_core.proofs.Tabs.{flat_same, suc_times}
use Rattle.std.proofs.Math.Seq.{get_or-append_seam}
use Rattle.xr_formulas.specs.declared.chain.Step.TheVariants.{Take}

-- ---- one axis

tab_without : {X : Type 0} (s : List ℕ) (k : ℕ) (f : List ℕ → X) → k < length s → get_or s k 0 ≡ 1 → tab (without k s) (λ p. f (with_axis k 0 p)) ≡ tab s f
tab_without [] k f lt one = absurd (omega arith)
tab_without (n ∷ ns) zero f lt one = subst (λ m. tab ns (λ p. f (0 ∷ p)) ≡ tab (m ∷ ns) f) (sym one) (sym (append-nil (tab ns (λ p. f (0 ∷ p)))))
tab_without (n ∷ ns) (suc k) f lt one = flat_same (λ i. tab (without k ns) (λ p. f (i ∷ with_axis k 0 p))) (λ i. tab ns (λ p. f (i ∷ p))) 0 n (λ i lo hi. tab_without ns k (λ p. f (i ∷ p)) (omega arith) one)

-- the axis behind some others
without_seam : (xs : List ℕ) (n : ℕ) (ys : List ℕ) → without (length xs) (xs ++ n ∷ ys) ≡ xs ++ ys
without_seam [] n ys = refl
without_seam (x ∷ xs) n ys = ap (λ t. x ∷ t) (without_seam xs n ys)

-- ---- all that go

-- steps that leave the cells as they are, in another shape
pub record AreLeaving (ss : List Step) (a : Array) (shape : List ℕ) (most : ℕ) : Type 0 where
  pub value : steps_value ss a ≡ record a { shape = shape }
  pub takes : TakesFit ss a.shape a.kind
  pub fits : StepsFit ss a
  pub few : steps_cells ss a ≤ most
  pub same : size shape ≡ size a.shape

-- dimensions with their names and sizes, of which those that go have one position
module _ (gone : List (List ℕ)) {X : Type 0} (name : X → List ℕ) (sized : X → ℕ) where
  abbrev pub IsOne : X → Type 0
  IsOne x = among gone (name x) ≡ true → sized x ≡ 1

  abbrev stay : List X → List X
  stay xs = filter (λ x. not (among gone (name x))) xs

  abbrev KeepsCells : List X → Type 0
  KeepsCells xs =
      (front : List ℕ) (k : ℕ) (a : Array) → k ≡ length front → a.shape ≡ front ++ map sized xs → length a.cells ≡ size a.shape → size a.shape ≤ 33554432 → length a.shape ≤ 16 → AreLeaving (steps_without gone k (map name xs)) a (front ++ map sized (stay xs)) (length xs * size a.shape)

  leaving : (xs : List X) → AllByRecursion IsOne xs → KeepsCells xs
  leaving [] one front k a at_end is whole small low = record { value = ap (λ s. record a { shape = s }) is; takes = tt; fits = tt; few = omega arith; same = sym (ap size is) }
  leaving (x ∷ xs) one front k a here is whole small low = by (among gone (name x)) one.0 (leaving xs one.1)
    where
      by : (b : Bool) → (b ≡ true → sized x ≡ 1) → KeepsCells xs
          → AreLeaving (if b then Take k (Some 0 ∷ []) None true ∷ steps_without gone k (map name xs) else steps_without gone (suc k) (map name xs)) a (front ++ map sized (cond (not b) (x ∷ stay xs) (stay xs))) (suc (length xs) * size a.shape)
      by false one rest =
          let next : suc k ≡ length (front ++ sized x ∷ []) = omega (arith, length-append front (sized x ∷ [])) in
          let r = rest (front ++ sized x ∷ []) (suc k) a next (is ∙ sym (append_assoc front (sized x ∷ []) (map sized xs))) whole small low in
          record { value = r.value ∙ ap (λ s. record a { shape = s }) (append_assoc front (sized x ∷ []) (map sized (stay xs))); takes = r.takes; fits = r.fits; few = omega (arith, suc_times (length xs) (size a.shape), r.few); same = ap size (sym (append_assoc front (sized x ∷ []) (map sized (stay xs)))) ∙ r.same }
      by true one rest =
          let inside : k < length a.shape = omega (arith, ap length is, length-append front (sized x ∷ map sized xs)) in
          let single : get_or a.shape k 0 ≡ 1 = ap (λ s. get_or s k 0) is ∙ ap (λ j. get_or (front ++ sized x ∷ map sized xs) j 0) here ∙ get_or-append_seam front (sized x) (map sized xs) 0 ∙ one refl in
          let to : without k a.shape ≡ front ++ map sized xs = ap (without k) is ∙ ap (λ j. without j (front ++ sized x ∷ map sized xs)) here ∙ without_seam front (sized x) (map sized xs) in
          let same : size (without k a.shape) ≡ size a.shape = sym (tab-length (without k a.shape) (with_axis k 0)) ∙ ap length (tab_without a.shape k (λ p. p) inside single) ∙ tab-length a.shape (λ p. p) in
          let b : Array = record a { shape = without k a.shape } in
          let there : picked_from a k (Some 0) None ≡ b = ap (λ cs. record { kind = a.kind; shape = without k a.shape; cells = cs }) (tab_without a.shape k (at a) inside single ∙ tab_read a.shape a.cells None whole) in
          let low_now : length (without k a.shape) ≤ 16 = omega (arith, ap length is, ap length to, length-append front (sized x ∷ map sized xs), length-append front (map sized xs)) in
          let r = rest front k b here to (whole ∙ sym same) (omega (arith, same, small)) low_now in
          let below = All-cons (IsBelow (get_or a.shape k 0)) (Some 0) [] (omega (arith, single)) (All-nil (IsBelow (get_or a.shape k 0))) in
          let tiny : size (without k a.shape) ≤ most_node_cells = omega (arith, same, small) in
          let few = subst (λ t. steps_cells (steps_without gone k (map name xs)) b ≤ length xs * t) same r.few in
          record {
            value = ap (steps_value (steps_without gone k (map name xs))) there ∙ r.value;
            takes = (record { axis = inside; below = below; cell = tt; one = λ f. refl; small = tiny }, r.takes);
            fits = (record { fits = (lit< tt, inside, below, tt, λ f. refl); small = tiny; low_rank = low_now }, subst (StepsFit (steps_without gone k (map name xs))) (sym there) r.fits);
            few = omega (arith, suc_times (length xs) (size a.shape), few, ap (steps_cells (steps_without gone k (map name xs))) there, same);
            same = r.same ∙ same;
          }

  pub cells_alone : (xs : List X) (kind : DType) (masked : Bool) (cells : List (Option ℤ)) → AllByRecursion IsOne xs → AreCells (map sized xs) kind masked cells → AreCells (map sized (stay xs)) kind masked cells
  cells_alone xs kind masked cells one is =
      let same = (leaving xs one [] 0 (record { kind = kind; shape = map sized xs; cells = cells }) refl refl is.whole (omega (arith, is.few)) (omega (arith, is.low_rank))).same in
      record { whole = is.whole ∙ sym same; range = is.range; seen = is.seen; low_rank = omega (arith, is.low_rank, length-map xs sized, length-map (stay xs) sized, fewer (λ x. not (among gone (name x))) xs); few = omega (arith, same, is.few) }

  -- from the cells of an array to those over the dimensions that are left
  pub all_leaving : (xs : List X) (a : Array) (kind : DType) (masked : Bool) (most : ℕ) → AllByRecursion IsOne xs → a.shape ≡ map sized xs → AreCells (map sized xs) kind masked a.cells → size (map sized (stay xs)) ≤ most → AreLeaving (steps_without gone 0 (map name xs)) a (map sized (stay xs)) (16 * most)
  all_leaving xs a kind masked most one is cells fits =
      let points = ap size is in
      let there = leaving xs one [] 0 a refl is (cells.whole ∙ sym points) (omega (arith, points, cells.few)) (omega (arith, ap length is, cells.low_rank)) in
      let same : size (map sized (stay xs)) ≡ size a.shape = there.same in
      let up = mul-le (length xs) (size a.shape) 16 most (omega (arith, length-map xs sized, cells.low_rank)) (omega (arith, same, fits)) in
      record { value = there.value; takes = there.takes; fits = there.fits; few = omega (arith, up, there.few); same = same }

-- ---- names

each_both : {X : Type 0} (P : X → Type 0) (xs ys : List X) → AllByRecursion P xs → AllByRecursion P ys → AllByRecursion P (xs ++ ys)
each_both P xs ys a b = recursion_from_All P (xs ++ ys) (All-append P xs ys (All-from_recursion P xs a) (All-from_recursion P ys b))

-- what holds of each name holds of one that is there
pub of_name : (P : List ℕ → Type 0) (ns : List (List ℕ)) (n : List ℕ) → AllByRecursion P ns → among ns n ≡ true → P n
of_name P ns n all has = let found = Any-from_list_any (bytes_eq n) ns has in subst P (found.3 ∙ sym (same_text n found.1 found.4)) (All-from_recursion P ns all found.0 found.1 found.2)

-- a name of one list isn't among names that are absent from it
lacks_one : (xs ns : List (List ℕ)) (n : List ℕ) → AreAbsent xs ns → among xs n ≡ true → among ns n ≡ false
lacks_one xs ns n absent has = false_from_ne_true (among ns n) (λ e. true≢false (sym has ∙ of_name (λ m. among xs m ≡ false) ns n absent e))

-- ---- labels

label_cell : (list : LabelList) → 0 < label_count list → AreLabels list → IsContent [] (label_content list 0)
label_cell (Numbers kind ns) some are = (
  refl,
  record {
    whole = refl;
    range = All-cons (IsCell kind) (Some (get_or ns 0 (pos 0))) [] (are.1 0 (pos 0) some) (All-nil (IsCell kind));
    seen = λ plain. All-cons (λ c. is_some c ≡ true) (Some (get_or ns 0 (pos 0))) [] refl (All-nil (λ c. is_some c ≡ true));
    low_rank = omega arith;
    few = omega arith;
  },
)
label_cell (Times coding ts) some are = (refl, are 0 (pos 0) some)
label_cell (Texts ts) some are = refl

-- the label of an axis, as a coordinate
abbrev pub label_of : Axis → Option Labels → List Coord
label_of x o = elim o as (λ o. List Coord) [ None ↦ [] | Some l ↦ record { name = x.name; axes = []; attrs = l.attrs; content = label_content l.list 0 } ∷ [] ]

label_one : (axes : List Axis) (x : Axis) → HasFirst x → AllByRecursion (IsCoordinate axes) (label_coord x 0)
label_one axes x is = by x.labels is.0.index
  where
    by : (o : Option Labels) → MatchOption o ⊤ (IsIndex x.size) → AllByRecursion (IsCoordinate axes) (label_of x o)
    by None index = tt
    by (Some l) index =
        (record { name = is.0.name; over = tt; distinct = refl; attrs = index.attrs; content = label_cell l.list (omega (arith, index.whole, is.1)) index.range }, tt)

-- the labels that are left have the names of their axes
pub label_names : (axes : List Axis) (gone : List (List ℕ)) → AllByRecursion (IsAlone axes) gone → names_of (labels_left gone axes) ≡ filter (has_labels axes) gone
label_names axes [] all = refl
label_names axes (n ∷ ns) all = by (axis_called axes n).labels (label_names axes ns all.1)
  where
    by : (o : Option Labels) → names_of (labels_left ns axes) ≡ filter (has_labels axes) ns
        → names_of (label_of (axis_called axes n) o ++ labels_left ns axes) ≡ cond (is_some o) (n ∷ filter (has_labels axes) ns) (filter (has_labels axes) ns)
    by None rest = rest
    by (Some l) rest = λ i. called_name axes n all.0.there i ∷ rest i

pub names_after : (gone : List (List ℕ)) (coords more : List Coord) → names_of (map (squeezed_coord gone) coords ++ more) ≡ names_of coords ++ names_of more
names_after gone coords more = map-append (λ (c : Coord). c.name) (map (squeezed_coord gone) coords) more ∙ ap (λ ns. ns ++ names_of more) (map-map (λ (c : Coord). c.name) (squeezed_coord gone) coords)

-- ---- axes that go

module _ (gone : List (List ℕ)) (axes : List Axis) where
  abbrev after : List Axis
  after = axes_left gone axes

  abbrev stays : Axis → Bool
  stays x = not (among gone x.name)

  abbrev name : Axis → List ℕ
  name x = x.name

  abbrev sized : Axis → ℕ
  sized x = x.size

  none_left : (n : List ℕ) → among gone n ≡ true → among (axis_names after) n ≡ false
  none_left n has = any_mapped (bytes_eq n) name after ∙ any-filter_same (λ x. bytes_eq n (name x)) stays false (λ x e. ap (λ m. not (among gone m)) (sym (same_text n x.name e)) ∙ ap not has) axes

  module _ (alone : AreAlone axes gone) where
    -- an axis that goes has one position
    pub ones : (xs : List Axis) → AllByRecursion (IsThere axes) xs → AllByRecursion (IsOne gone name sized) xs
    ones xs all = each_weaker (IsThere axes) (IsOne gone name sized) xs (λ x there has. ap sized (sym there.1) ∙ (of_name (IsAlone axes) gone x.name alone.each has).one) all

    content_leaves : (xs : List Axis) (content : Content) → AllByRecursion (IsThere axes) xs → IsContent (shape_over xs) content
        → Leaves gone xs content × IsContent (shape_over (axes_left gone xs)) (squeezed_content gone xs content)
    content_leaves xs (contents.Cells a masked) all is =
        let one = ones xs all in
        let left = all_leaving gone name sized xs a a.kind masked (size (shape_over (axes_left gone xs))) one is.0 is.1 (omega arith) in
        ((left.takes, left.value), (refl, cells_alone gone name sized xs a.kind masked a.cells one is.1))
    content_leaves [] (contents.Text text) all is = (tt, refl)
    content_leaves [] (contents.Time coding t) all is = (tt, (refl, is.1))
    content_leaves (x ∷ xs) (contents.Text text) all is = absurd cc
    content_leaves (x ∷ xs) (contents.Time coding t) all is = let bare = is.0 in absurd cc

    -- ---- coordinates

    there_left : (x : Axis) → stays x ≡ true → IsThere axes x → IsThere after x
    there_left x here there = let lacks = not-true (among gone x.name) here in (named_left gone axes x.name lacks ∙ there.0, called_left gone axes x.name lacks ∙ there.1)

    coord_left : (c : Coord) → IsCoordinate axes c → IsCoordinate after (squeezed_coord gone c)
    coord_left c is =
        record {
          name = is.name;
          over = each_left (IsThere axes) (IsThere after) stays there_left c.axes is.over;
          distinct = distinct_left name stays c.axes is.distinct;
          attrs = is.attrs;
          content = (content_leaves c.axes c.content is.over is.content).1;
        }

    each_label : (ns : List (List ℕ)) → AllByRecursion (λ n. HasFirst (axis_called axes n)) ns → AllByRecursion (IsCoordinate after) (labels_left ns axes)
    each_label [] all = tt
    each_label (n ∷ ns) all = each_both (IsCoordinate after) (label_coord (axis_called axes n) 0) (labels_left ns axes) (label_one after (axis_called axes n) all.0) (each_label ns all.1)

    module _ (coords : List Coord) (is : IsFrame axes coords) where
      pub coord_leaves : (i : ℕ) (c : Coord) → i < length coords → c ≡ get_or coords i c → Leaves gone c.axes c.content
      coord_leaves i c lt at = let one = subst (IsCoordinate axes) (sym at) (All-from_recursion (IsCoordinate axes) coords is.over i c lt) in (content_leaves c.axes c.content one.over one.content).0

      first_labels : AllByRecursion (λ n. HasFirst (axis_called axes n)) gone
      first_labels = each_weaker (IsAlone axes) (λ n. HasFirst (axis_called axes n)) gone (λ n one. ((called_holds IsDimension n axes is.dims.each one.there).0, one.one)) alone.each

      pub first_label : (i : ℕ) (n : List ℕ) → i < length gone → n ≡ get_or gone i n → HasFirst (axis_called axes n)
      first_label i n lt at = subst (λ m. HasFirst (axis_called axes m)) (sym at) (All-from_recursion (λ n. HasFirst (axis_called axes n)) gone first_labels i n lt)

      labels_some : AreSome gone (names_of (labels_left gone axes))
      labels_some = subst (AreSome gone) (sym (label_names axes gone alone.each)) (subst (λ (h : List (List ℕ) → List (List ℕ)). AreSome (h gone) (h (filter (has_labels axes) gone))) (λ i ns. map-id ns i) (some_left (λ n. n) (has_labels axes) gone))

      pub frame_kept : IsFrame after (squeezed_coords gone axes coords)
      frame_kept =
          let left = axis_names after in
          let own = names_of coords in
          let names = names_of (labels_left gone axes) in
          record {
            dims = record { each = each_left IsDimension IsDimension stays (λ x e one. one) axes is.dims.each; distinct = distinct_left name stays axes is.dims.distinct };
            over = each_both (IsCoordinate after) (map (squeezed_coord gone) coords) (labels_left gone axes) (each_map (IsCoordinate axes) (IsCoordinate after) (squeezed_coord gone) coords coord_left is.over) (each_label gone first_labels);
            distinct = ap (λ ns. are_distinct (left ++ ns)) (names_after gone coords (labels_left gone axes)) ∙ ap are_distinct (sym (append_assoc left own names))
                ∙ join (left ++ own) names (record {
                  first = (some_both (some_left name stays axes) (some_same own)).distinct is.distinct;
                  second = labels_some.distinct alone.distinct;
                  apart = labels_some.each (λ n. among (left ++ own) n ≡ false)
                      (both_hold (λ n. among gone n ≡ true) (IsAlone axes) (λ n. among (left ++ own) n ≡ false) gone (λ n has one. absent_both left own n (none_left n has) (lacks_one (axis_names axes) own n (split (axis_names axes) own is.distinct).apart one.there)) (own_names gone) alone.each);
                });
          }
