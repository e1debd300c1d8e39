-- What is made of an array of which several dimensions are grouped that keep their names is its reduction by lists.
use Rattle.std.proofs.Common.{◌≡◌, ◌<◌, ◌≤◌, ◌+◌, ◌*◌, ◌||◌, ◌&&◌, ℕ, zero, suc, ℤ, Bool, true, false, not, cond, List, [], ◌∷◌, ◌++◌, length, map, flat_map, get_or, Option, None, is_some, All, refl, sym, ap, subst, ◌∙◌, arith, length-append}
use Rattle.std.specs.Prelude.{⊤}
use Rattle.std.specs.Str.{bytes_eq}
use Rattle.std.specs.List.{AllByRecursion, list_any, range_with_len}
use Rattle.std.proofs.lemmas.Bool.{not-true, or_parts}
use Rattle.std.proofs.lemmas.List.{length-map}
use Rattle.xr_types.specs.Names.{among, are_distinct, axis_names, shape_over}
use Rattle.xr_types.specs.Points.{size, IsPoint, place as spot}
use Rattle.xr_types.specs.declared.axis.Axis.{Axis}
use Rattle.xr_types.specs.declared.operation.FoldKind.{FoldKind}
use Rattle.xr_types.specs.declared.operation.FoldKind.TheVariants.{Sum, Prod, Min, Max, First, Last, ArgMin, ArgMax, Count, Any, All as every}
use Rattle.xr_arrays.specs.declared.node.Feed.{Feed}
use Rattle.xr_arrays.specs.declared.node.Feed.TheVariants as feed
use Rattle.xr_arrays.specs.declared.node.Node.{Node}
use Rattle.xr_arrays.specs.Arrays.{Array, at, IsCell}
use Rattle.xr_arrays.specs.Folds.{fold_of, folded_kind}
use Rattle.xr_arrays.specs.Nodes.{folded, folded_axes, gathered, is_positional, kept, most_axes, most_node_cells, value, ArePositions, AreFed, IsFed}
use Rattle.xr_arrays.proofs.FeedRanges.{folded_cell}
use Rattle.plan_core.proofs.Tabs.{All-tab, place_below, tab-length}
use Rattle.xr_defs.specs.Selecting.{axis_called}
use Rattle.xr_defs.specs.Values as of
use Rattle.xr_defs.specs.Values.{array_of, without_fills}
use Rattle.xr_defs.specs.WellFormed.{names_of, AreCells, IsCoordinate, IsDataArray, IsDimension}
use Rattle.xr_defs.specs.declared.value.Coord.{Coord}
use Rattle.xr_defs.proofs.Spans.{points_above}
use Rattle.xr_values.specs.declared.data_array.DataArray.{DataArray}
use Rattle.xr_values.specs.Stands.{array_in, IsArrayIn}
use Rattle.xr_values.proofs.Grown.{array_value}
use Rattle.xr_values.proofs.Named.{bytes_eq_swap}
use Rattle.xr_formulas.specs.declared.chain.Step.TheVariants as step
use Rattle.xr_formulas.specs.declared.made.Made.{Made}
use Rattle.xr_formulas.specs.Chains.{StepFits}
use Rattle.xr_formulas.specs.Mades.{made_in, IsMade}
use Rattle.xr_operations.specs.Reductions.{coords_left, masked_after, needs_cells}
use Rattle.xr_groups.specs.declared.change.Change.{Change}
use Rattle.xr_groups.specs.declared.change.Least.TheVariants.{Never}
use Rattle.xr_groups.specs.Listed.{axes_by, axis_by, coords_by, dimensions, feed_by, feeds_by}
use Rattle.xr_groups.specs.Methods.{array_listed, of_blocks, of_groups}
use Rattle.xr_parts.specs.Frames.{IsFrame, IsThere}
use Rattle.xr_parts.proofs.Axes.{called_cons, own_axes}
use Rattle.xr_parts.proofs.Words.{distinct_left, each_left, each_named_left, join, same_text, split}
use Rattle.xr_reducing.proofs.Reduced.{attrs_left}
use Rattle.xr_grouping.specs.Changes.{Stays}
use Rattle.xr_grouping.specs.Mades.{folded_made, kept_made}
use Rattle.xr_grouping.proofs.Present.{always_there, fold_there, AreThere}

abbrev IsFull : Feed → Type 0
IsFull feed.Keep = ⊤
IsFull feed.All = ⊥
IsFull (feed.By lists) = All (λ ps. 0 < length ps) lists

-- ---- what is gathered of cells that are all there

there_both : (xs ys : List (ℕ × Option ℤ)) → AreThere xs → AreThere ys → AreThere (xs ++ ys)
there_both [] ys one other = other
there_both (x ∷ xs) ys one other = (one.0, there_both xs ys one.1 other)

abbrev IsSome : List (ℕ × Option ℤ) → Type 0
IsSome cs = AreThere cs × (0 < length cs)

flat_there : (g : ℕ → List (ℕ × Option ℤ)) (n from : ℕ) (ps : List ℕ) → ArePositions n from ps → ((i : ℕ) → i < n → IsSome (g i)) → AreThere (flat_map g ps)
flat_there g n from [] are each = tt
flat_there g n from (p ∷ ps) are each = there_both (g p) (flat_map g ps) ((each p are.1).0) (flat_there g n (suc p) ps are.2 each)

flat_some : (g : ℕ → List (ℕ × Option ℤ)) (n from : ℕ) (ps : List ℕ) → ArePositions n from ps → ((i : ℕ) → i < n → IsSome (g i)) → 0 < length ps → 0 < length (flat_map g ps)
flat_some g n from [] are each some = absurd (omega (arith, some))
flat_some g n from (p ∷ ps) are each some = let one = (each p are.1).1 in let both = length-append (g p) (flat_map g ps) in omega (arith, one, both)

gathered_there : (j : ℕ) (fs : List Feed) (ns p : List ℕ) (f : List ℕ → Option ℤ) → length fs ≡ length ns → AreFed fs ns → AllByRecursion IsFull fs → IsPoint (kept fs ns) p → ((q : List ℕ) → IsPoint ns q → is_some (f q) ≡ true) → IsSome (gathered j fs ns p f)
gathered_there j [] [] [] f long fed full here each = ((each [] tt, tt), omega arith)
gathered_there j [] [] (i ∷ p) f long fed full here each = absurd here
gathered_there j [] (n ∷ ns) p f long fed full here each = absurd (omega (arith, long))
gathered_there j (x ∷ fs) [] p f long fed full here each = absurd (omega (arith, long))
gathered_there j (feed.Keep ∷ fs) (n ∷ ns) [] f long fed full here each = absurd here
gathered_there j (feed.Keep ∷ fs) (n ∷ ns) (i ∷ p) f long fed full here each = gathered_there j fs ns p (λ q. f (i ∷ q)) (omega (arith, long)) fed.1 full.1 here.1 (λ q inside. each (i ∷ q) (here.0, inside))
gathered_there j (feed.All ∷ fs) (n ∷ ns) p f long fed full here each = absurd full.0
gathered_there j (feed.By lists ∷ fs) (n ∷ ns) [] f long fed full here each = absurd here
gathered_there j (feed.By lists ∷ fs) (n ∷ ns) (i ∷ p) f long fed full here each =
    let rest : (m : ℕ) → m < n → IsSome (gathered m fs ns p (λ q. f (m ∷ q))) = λ m below. gathered_there m fs ns p (λ q. f (m ∷ q)) (omega (arith, long)) fed.1 full.1 here.1 (λ q inside. each (m ∷ q) (below, inside)) in
    let are = fed.0 i [] here.0 in
    (flat_there (λ m. gathered m fs ns p (λ q. f (m ∷ q))) n 0 (get_or lists i []) are rest, flat_some (λ m. gathered m fs ns p (λ q. f (m ∷ q))) n 0 (get_or lists i []) are rest (full.0 i [] here.0))

-- ---- the axes

-- what stands in the place of an axis, and how it is fed
record IsPlaced (x y : Axis) (f : Feed) : Type 0 where
  dimension : IsDimension y
  name : y.name ≡ x.name
  fed : IsFed x.size f
  full : IsFull f
  shape : (fs : List Feed) (ns : List ℕ) → kept (f ∷ fs) (x.size ∷ ns) ≡ y.size ∷ kept fs ns

module _ (axes : List Axis) where
  at_axis : (cs : List Change) → AllByRecursion (Stays axes) cs → (x : Axis) → IsThere axes x → IsDimension x → IsPlaced x (axis_by cs x) (feed_by cs x.name)
  at_axis [] all x there is = record { dimension = is; name = refl; fed = tt; full = tt; shape = λ fs ns. refl }
  at_axis (c ∷ cs) all x there is = by (bytes_eq x.name c.dimension) refl (at_axis cs all.1 x there is)
    where
      by : (b : Bool) → bytes_eq x.name c.dimension ≡ b → IsPlaced x (axis_by cs x) (feed_by cs x.name) → IsPlaced x (cond b c.axis (axis_by cs x)) (cond b (feed.By c.lists) (feed_by cs x.name))
      by true e rest =
          let same : x.name ≡ c.dimension = same_text x.name c.dimension e in
          let one = all.0 in
          record {
            dimension = one.axis;
            name = one.name ∙ sym same;
            fed = subst (λ (y : Axis). All (ArePositions y.size 0) c.lists) (ap (axis_called axes) (sym same) ∙ there.1) one.fed;
            full = one.full;
            shape = λ fs ns. ap (λ n. n ∷ kept fs ns) (sym one.sized);
          }
      by false e rest = rest

  module _ (cs : List Change) (all : AllByRecursion (Stays axes) cs) where
    fed_by : (xs : List Axis) → AllByRecursion (IsThere axes) xs → AllByRecursion IsDimension xs → AreFed (feeds_by cs (axis_names xs)) (shape_over xs)
    fed_by [] there are = tt
    fed_by (x ∷ xs) there are = ((at_axis cs all x there.0 are.0).fed, fed_by xs there.1 are.1)

    full_by : (xs : List Axis) → AllByRecursion (IsThere axes) xs → AllByRecursion IsDimension xs → AllByRecursion IsFull (feeds_by cs (axis_names xs))
    full_by [] there are = tt
    full_by (x ∷ xs) there are = ((at_axis cs all x there.0 are.0).full, full_by xs there.1 are.1)

    shape_by : (xs : List Axis) → AllByRecursion (IsThere axes) xs → AllByRecursion IsDimension xs → kept (feeds_by cs (axis_names xs)) (shape_over xs) ≡ shape_over (axes_by cs xs)
    shape_by [] there are = refl
    shape_by (x ∷ xs) there are = (at_axis cs all x there.0 are.0).shape (feeds_by cs (axis_names xs)) (shape_over xs) ∙ ap (λ ns. (axis_by cs x).size ∷ ns) (shape_by xs there.1 are.1)

    dims_by : (xs : List Axis) → AllByRecursion (IsThere axes) xs → AllByRecursion IsDimension xs → AllByRecursion IsDimension (axes_by cs xs)
    dims_by [] there are = tt
    dims_by (x ∷ xs) there are = ((at_axis cs all x there.0 are.0).dimension, dims_by xs there.1 are.1)

    names_by : (xs : List Axis) → AllByRecursion (IsThere axes) xs → AllByRecursion IsDimension xs → axis_names (axes_by cs xs) ≡ axis_names xs
    names_by [] there are = refl
    names_by (x ∷ xs) there are = ap (λ n. n ∷ axis_names (axes_by cs xs)) ((at_axis cs all x there.0 are.0).name) ∙ ap (λ ns. x.name ∷ ns) (names_by xs there.1 are.1)

    called_by : (xs : List Axis) (n : List ℕ) → AllByRecursion (IsThere axes) xs → AllByRecursion IsDimension xs → among (axis_names xs) n ≡ true → axis_called (axes_by cs xs) n ≡ axis_by cs (axis_called xs n)
    called_by [] n there are has = absurd cc
    called_by (x ∷ xs) n there are has =
        called_cons (axis_by cs x) (axes_by cs xs) n ∙ ap (λ m. cond (bytes_eq m n) (axis_by cs x) (axis_called (axes_by cs xs) n)) ((at_axis cs all x there.0 are.0).name)
        ∙ by (bytes_eq x.name n) (bytes_eq n x.name) (bytes_eq_swap n x.name) has (called_by xs n there.1 are.1) ∙ ap (axis_by cs) (sym (called_cons x xs n))
      where
        by : (b b' : Bool) → b' ≡ b → (b' || among (axis_names xs) n) ≡ true → (among (axis_names xs) n ≡ true → axis_called (axes_by cs xs) n ≡ axis_by cs (axis_called xs n)) → cond b (axis_by cs x) (axis_called (axes_by cs xs) n) ≡ axis_by cs (cond b x (axis_called xs n))
        by true b' e has rest = refl
        by false true e has rest = absurd cc
        by false false e has rest = rest has

  not_changed : (cs : List Change) (y : Axis) → among (dimensions cs) y.name ≡ false → axis_by cs y ≡ y
  not_changed [] y none = refl
  not_changed (c ∷ cs) y none = let parts = or_parts (bytes_eq y.name c.dimension) (among (dimensions cs) y.name) none in ap (λ b. cond b c.axis (axis_by cs y)) parts.0 ∙ not_changed cs y parts.1

  -- ---- the frame

  module _ (coords : List Coord) (is : IsFrame axes coords) (cs : List Change) (all : AllByRecursion (Stays axes) cs) where
    abbrev after : List Axis
    after = axes_by cs axes

    abbrev stays : Coord → Bool
    stays z = not (list_any (among (dimensions cs)) (axis_names z.axes))

    there : AllByRecursion (IsThere axes) axes
    there = own_axes axes is.dims.distinct

    names : axis_names after ≡ axis_names axes
    names = names_by cs all axes there is.dims.each

    there_after : (ys : List Axis) → list_any (among (dimensions cs)) (axis_names ys) ≡ false → AllByRecursion (IsThere axes) ys → AllByRecursion (IsThere after) ys
    there_after [] none are = tt
    there_after (y ∷ ys) none are =
        let parts = or_parts (among (dimensions cs) y.name) (list_any (among (dimensions cs)) (axis_names ys)) none in
        ((ap (λ ns. among ns y.name) names ∙ are.0.0, called_by cs all axes y.name there is.dims.each are.0.0 ∙ ap (axis_by cs) are.0.1 ∙ not_changed cs y parts.0), there_after ys parts.1 are.1)

    pub frame_by : IsFrame after (coords_left (dimensions cs) coords)
    frame_by =
        let both = split (axis_names axes) (names_of coords) is.distinct in
        record {
          dims = record { each = dims_by cs all axes there is.dims.each; distinct = subst (λ ns. are_distinct ns ≡ true) (sym names) is.dims.distinct };
          over = each_left (IsCoordinate axes) (IsCoordinate after) stays
              (λ x e at. record { name = at.name; over = there_after x.axes (not-true (list_any (among (dimensions cs)) (axis_names x.axes)) e) at.over; distinct = at.distinct; attrs = at.attrs; content = at.content }) coords is.over;
          distinct = subst (λ ns. are_distinct (ns ++ names_of (coords_left (dimensions cs) coords)) ≡ true) (sym names)
              (join (axis_names axes) (names_of (coords_left (dimensions cs) coords)) (record {
                first = both.first;
                second = distinct_left (λ (x : Coord). x.name) stays coords both.second;
                apart = each_named_left (λ (x : Coord). x.name) stays (λ m. among (axis_names axes) m ≡ false) coords both.apart;
              }));
        }

-- ---- methods of blocks

pub blocks_are : (k : FoldKind) → of_blocks k ≡ true → of_groups k ≡ true
blocks_are Sum e = refl
blocks_are Prod e = refl
blocks_are Min e = refl
blocks_are Max e = refl
blocks_are Count e = refl
blocks_are Any e = refl
blocks_are every e = refl
blocks_are First e = absurd cc
blocks_are Last e = absurd cc
blocks_are ArgMin e = absurd cc
blocks_are ArgMax e = absurd cc

not_positional : (k : FoldKind) → of_blocks k ≡ true → is_positional k ≡ false
not_positional Sum e = refl
not_positional Prod e = refl
not_positional Min e = refl
not_positional Max e = refl
not_positional Count e = refl
not_positional Any e = refl
not_positional every e = refl
not_positional First e = absurd cc
not_positional Last e = absurd cc
not_positional ArgMin e = absurd cc
not_positional ArgMax e = absurd cc

never : (b : Bool) → b ≡ true → b ≡ false → ⊥
never b s t = cc

-- ---- the array

module _ (nodes : List Node) (k : FoldKind) (cs : List Change) (a : DataArray) (is : IsArrayIn nodes a) (method : of_blocks k ≡ true) (all : AllByRecursion (Stays a.axes) cs)
    (few : size (shape_over (axes_by cs a.axes)) ≤ 33554432) where
  abbrev dims : List (List ℕ)
  dims = axis_names a.axes

  abbrev before : List ℕ
  before = shape_over a.axes

  abbrev result : List Axis
  result = axes_by cs a.axes

  abbrev feeds : List Feed
  feeds = feeds_by cs dims

  abbrev own : Array
  own = array_of (array_in nodes a)

  abbrev masked : Bool
  masked = masked_after k a.masked

  frame : IsFrame a.axes a.coords
  frame = record { dims = is.formed.axes; over = is.formed.coords; distinct = is.formed.distinct }

  own_there : AllByRecursion (IsThere a.axes) a.axes
  own_there = own_axes a.axes is.formed.axes.distinct

  long : length feeds ≡ length before
  long = length-map dims (feed_by cs) ∙ length-map a.axes (λ (x : Axis). x.name) ∙ sym (length-map a.axes (λ (x : Axis). x.size))

  fed : AreFed feeds before
  fed = fed_by a.axes cs all a.axes own_there is.formed.axes.each

  full : AllByRecursion IsFull feeds
  full = full_by a.axes cs all a.axes own_there is.formed.axes.each

  to : kept feeds before ≡ shape_over result
  to = shape_by a.axes cs all a.axes own_there is.formed.axes.each

  small : size (kept feeds before) ≤ 33554432
  small = subst (λ s. size s ≤ 33554432) (sym to) few

  low : length (kept feeds before) ≤ 16
  low =
      let rank = is.formed.cells.low_rank in
      let there = length-map result (λ (x : Axis). x.size) in
      let same = length-map a.axes (axis_by cs) in
      let here = length-map a.axes (λ (x : Axis). x.size) in
      subst (λ s. length s ≤ 16) (sym to) (omega (arith, rank, there, same, here))

  -- ---- the cells

  abbrev cell : List ℕ → Option ℤ
  cell p = fold_of k a.kind (gathered 0 feeds before p (at own))

  seen_at : a.masked ≡ false → (q : List ℕ) → IsPoint before q → is_some (at own q) ≡ true
  seen_at plain q here = let below = place_below before q here in let whole = is.formed.cells.whole in is.formed.cells.seen plain (spot before q) None (omega (arith, below, whole))

  seen : masked ≡ false → (p : List ℕ) → IsPoint (kept feeds before) p → is_some (cell p) ≡ true
  seen plain p here = by (needs_cells k) refl plain
    where
      by : (b : Bool) → needs_cells k ≡ b → (b && a.masked) ≡ false → is_some (cell p) ≡ true
      by false e plain = always_there k a.kind (gathered 0 feeds before p (at own)) e
      by true e plain =
          let found = gathered_there 0 feeds before p (at own) long fed full here (seen_at plain) in
          fold_there k a.kind (gathered 0 feeds before p (at own)) (blocks_are k method) found.0 found.1

  cells_before : AreCells (kept feeds before) (folded_kind k a.kind) masked (folded k feeds own).cells
  cells_before = record {
    whole = tab-length (kept feeds before) cell;
    range = All-tab (IsCell (folded_kind k a.kind)) (kept feeds before) cell
        (λ p here. let most = is.formed.cells.few in folded_cell k feeds own p (record { whole = is.formed.cells.whole; range = is.formed.cells.range }) long fed here (omega (arith, most)));
    seen = λ plain. All-tab (λ x. is_some x ≡ true) (kept feeds before) cell (seen plain);
    low_rank = low;
    few = small;
  }

  cells : AreCells (shape_over result) (folded_kind k a.kind) masked (folded k feeds own).cells
  cells = subst (λ s. AreCells s (folded_kind k a.kind) masked (folded k feeds own).cells) to cells_before

  after_frame : IsFrame result (coords_by false cs a.coords)
  after_frame = frame_by a.axes a.coords frame cs all

  abbrev means : of.DataArray
  means = array_listed k Never false cs None (array_in nodes a)

  formed : IsDataArray means
  formed = record { name = is.formed.name; axes = after_frame.dims; coords = after_frame.over; distinct = after_frame.distinct; attrs = attrs_left a.attrs is.formed.attrs; cells = cells }

  abbrev made : Made
  made = folded_made k masked cs a

  same : folded k feeds (value nodes a.node) ≡ folded k feeds own
  same = ap (folded k feeds) (array_value nodes a is)

  pub blocks_listed : made_in nodes made ≡ means
  blocks_listed = ap (λ (v : Array). of_cells v.cells) same
    where
      of_cells : List (Option ℤ) → of.DataArray
      of_cells xs = record { name = a.name; axes = result; kind = folded_kind k a.kind; masked = masked; attrs = without_fills a.attrs; coords = coords_by false cs a.coords; cells = xs }

  fits : StepFits (step.Fold k feeds) (value nodes a.node)
  fits =
      let here = is.node.has_shape in
      record {
        fits = (omega arith, subst (λ (s : List ℕ). length feeds ≡ length s) (sym here) long, subst (AreFed feeds) (sym here) fed, λ e. absurd (never (is_positional k) e (not_positional k method)));
        small = subst (λ (s : List ℕ). size (kept feeds s) ≤ most_node_cells) (sym here) (let most = small in omega (arith, most));
        low_rank = subst (λ (s : List ℕ). length (kept feeds s) ≤ most_axes) (sym here) low;
      }

  pub blocks_made : IsMade nodes made
  blocks_made =
      let shape : kept feeds (value nodes a.node).shape ≡ shape_over result = ap (kept feeds) is.node.has_shape ∙ to in
      let points = ap size shape in
      let most = points_above result result after_frame.dims.distinct (λ n e. e) (λ n. omega arith) in
      record {
        fits = record { start = is.node.placed; steps = (fits, tt) };
        shape = shape;
        kind = ap (folded_kind k) is.node.has_kind;
        formed = subst IsDataArray (sym blocks_listed) formed;
        room = omega (arith, points, most);
      }

-- an array without the dimensions stays as it is
module _ (nodes : List Node) (a : DataArray) (is : IsArrayIn nodes a) where
  pub kept_is : made_in nodes (kept_made a) ≡ array_in nodes a
  kept_is = refl

  pub kept_fits : IsMade nodes (kept_made a)
  kept_fits = record { fits = record { start = is.node.placed; steps = tt }; shape = is.node.has_shape; kind = is.node.has_kind; formed = is.formed; room = omega arith }
