-- Folds of lists of positions along any of an array's axes.
use Rattle.std.proofs.Common.{◌≡◌, ◌<◌, ◌≤◌, ◌*◌, ◌&&◌, ◌||◌, ℕ, ℤ, suc, Bool, true, false, cond, List, [], ◌∷◌, ◌++◌, length, length-append, flat_map, get_or, Option, None, is_some, All, refl, sym, ap, subst, ◌∙◌, arith}
use Rattle.std.specs.Prelude.{◌==◌}
use Rattle.std.proofs.lemmas.Bool.Decides.{nat_tests}
use Rattle.std.specs.Str.{bytes_eq}
use Rattle.std.specs.List.{AllByRecursion}
use Rattle.std.proofs.lemmas.Bool.{or_parts}
use Rattle.std.proofs.lemmas.List.{append-nil, length-map}
use Rattle.xr_values.proofs.Named.{bytes_eq_swap}
use Rattle.xr_types.specs.Names.{among, are_distinct, axis_names, shape_over}
use Rattle.xr_types.specs.Points.{size, IsPoint, place}
use Rattle.xr_types.specs.declared.attr.Attr.{Attr}
use Rattle.xr_types.specs.declared.axis.Axis.{Axis}
use Rattle.xr_types.specs.declared.kind.DType.{DType}
use Rattle.xr_types.specs.declared.operation.FoldKind.{FoldKind}
use Rattle.xr_arrays.specs.declared.node.Feed.{Feed}
use Rattle.xr_arrays.specs.declared.node.Feed.TheVariants as feed
use Rattle.xr_arrays.specs.declared.node.Node.{Node}
use Rattle.xr_arrays.specs.Arrays.{Array, at, IsCell}
use Rattle.xr_arrays.specs.Folds.{fold_of, folded_kind}
use Rattle.xr_arrays.specs.Nodes.{folded, folded_axes, gathered, is_positional, kept, most_axes, most_node_cells, value, AreFed, ArePositions}
use Rattle.xr_arrays.proofs.FeedRanges.{folded_cell}
use Rattle.xr_arrays.specs.Added.{AddsAtMost}
use Rattle.plan_core.proofs.Added.{adds_up}
use Rattle.plan_core.proofs.Tabs.{All-tab, place_below, tab-length, tab_same}
use Rattle.xr_defs.specs.Room.{span}
use Rattle.xr_defs.specs.Values as of
use Rattle.xr_defs.specs.Values.{array_of, without_fills}
use Rattle.xr_defs.specs.declared.value.Coord.{Coord}
use Rattle.xr_defs.specs.WellFormed.{AreCells, IsDataArray, IsDimension}
use Rattle.xr_defs.proofs.Spans.{points_above}
use Rattle.xr_operations.specs.Reductions.{coords_left, masked_after, needs_cells}
use Rattle.xr_parts.proofs.Words.{distinct_parts, same_text}
use Rattle.xr_values.specs.declared.data_array.DataArray.{DataArray}
use Rattle.xr_values.specs.Stands.{array_in, IsArrayIn}
use Rattle.xr_values.proofs.Grown.{array_value}
use Rattle.xr_formulas.specs.declared.chain.Chain.{Chain}
use Rattle.xr_formulas.specs.declared.chain.Start.TheVariants as starts
use Rattle.xr_formulas.specs.declared.chain.Step.TheVariants as step
use Rattle.xr_formulas.specs.Chains.{chain_cells, chain_value, ChainFits, IsValueOf}
use Rattle.xr_formulas.specs.Mades.{IsArrayOf}
use Rattle.xr_groups.specs.declared.change.Change.{Change}
use Rattle.xr_groups.specs.declared.change.Least.TheVariants.{Never, Empty}
use Rattle.xr_groups.specs.Listed.{axes_by, axis_by, dimensions, listed, feed_by, feeds_by, is_grouped}
use Rattle.xr_groups.specs.Methods.{array_listed, of_groups}
use Rattle.xr_reducing.proofs.Reduced.{attrs_left, size_passed}
use Rattle.xr_group_sets.specs.Listing.{IsAxisFed, IsFull, IsListing}
use Rattle.xr_grouping.proofs.Present.{always_there, fold_there, AreThere}

-- ---- lists that have positions

abbrev IsFullFeed : Feed → Type 0
IsFullFeed feed.Keep = Unit {0}
IsFullFeed feed.All = ⊥
IsFullFeed (feed.By lists) = All (λ ps. 0 < length ps) lists

feed_full : (cs : List Change) → AllByRecursion IsFull cs → (d : List ℕ) → IsFullFeed (feed_by cs d)
feed_full [] all d = tt
feed_full (c ∷ cs) all d = by (bytes_eq d c.dimension) (feed_full cs all.1 d)
  where
    by : (b : Bool) → IsFullFeed (feed_by cs d) → IsFullFeed (cond b (feed.By c.lists) (feed_by cs d))
    by true rest = all.0
    by false rest = rest

feeds_full : (cs : List Change) → AllByRecursion IsFull cs → (ds : List (List ℕ)) → AllByRecursion IsFullFeed (feeds_by cs ds)
feeds_full cs all [] = tt
feeds_full cs all (d ∷ ds) = (feed_full cs all d, feeds_full cs all ds)

-- ---- the cells that are gathered

there_both : (xs ys : List (ℕ × Option ℤ)) → AreThere xs → AreThere ys → AreThere (xs ++ ys)
there_both [] ys a b = b
there_both (c ∷ xs) ys a b = (a.0, there_both xs ys a.1 b)

flat_there : (g : ℕ → List (ℕ × Option ℤ)) (n from : ℕ) (ps : List ℕ) → ArePositions n from ps → ((i : ℕ) → i < n → AreThere (g i)) → AreThere (flat_map g ps)
flat_there g n from [] are each = tt
flat_there g n from (p ∷ ps) are each = there_both (g p) (flat_map g ps) (each p are.1) (flat_there g n (suc p) ps are.2 each)

gathered_there : (j : ℕ) (fs : List Feed) (ns p : List ℕ) (f : List ℕ → Option ℤ) → length fs ≡ length ns → AreFed fs ns → AllByRecursion IsFullFeed fs → IsPoint (kept fs ns) p → ((q : List ℕ) → IsPoint ns q → is_some (f q) ≡ true) → AreThere (gathered j fs ns p f)
gathered_there j [] [] p f long fed full here all = (all [] tt, tt)
gathered_there j [] (n ∷ ns) p f long fed full here all = absurd (omega arith)
gathered_there j (x ∷ fs) [] p f long fed full here all = absurd (omega arith)
gathered_there j (feed.Keep ∷ fs) (n ∷ ns) [] f long fed full here all = absurd here
gathered_there j (feed.Keep ∷ fs) (n ∷ ns) (i ∷ p) f long fed full here all = gathered_there j fs ns p (λ q. f (i ∷ q)) (omega arith) fed.1 full.1 here.1 (λ q inside. all (i ∷ q) (here.0, inside))
gathered_there j (feed.All ∷ fs) (n ∷ ns) p f long fed full here all = absurd full.0
gathered_there j (feed.By lists ∷ fs) (n ∷ ns) [] f long fed full here all = absurd here
gathered_there j (feed.By lists ∷ fs) (n ∷ ns) (i ∷ p) f long fed full here all =
    flat_there (λ k. gathered k fs ns p (λ q. f (k ∷ q))) n 0 (get_or lists i []) (fed.0 i [] here.0) (λ k lt. gathered_there k fs ns p (λ q. f (k ∷ q)) (omega arith) fed.1 full.1 here.1 (λ q inside. all (k ∷ q) (lt, inside)))

flat_some : (g : ℕ → List (ℕ × Option ℤ)) (ps : List ℕ) → 0 < length ps → ((k : ℕ) → 0 < length (g k)) → 0 < length (flat_map g ps)
flat_some g [] some each = absurd (omega arith)
flat_some g (p ∷ ps) some each = let long = length-append (g p) (flat_map g ps) in let one = each p in omega (arith, long, one)

gathered_some : (j : ℕ) (fs : List Feed) (ns p : List ℕ) (f : List ℕ → Option ℤ) → length fs ≡ length ns → AllByRecursion IsFullFeed fs → IsPoint (kept fs ns) p → 0 < length (gathered j fs ns p f)
gathered_some j [] [] p f long full here = omega arith
gathered_some j [] (n ∷ ns) p f long full here = absurd (omega arith)
gathered_some j (x ∷ fs) [] p f long full here = absurd (omega arith)
gathered_some j (feed.Keep ∷ fs) (n ∷ ns) [] f long full here = absurd here
gathered_some j (feed.Keep ∷ fs) (n ∷ ns) (i ∷ p) f long full here = gathered_some j fs ns p (λ q. f (i ∷ q)) (omega arith) full.1 here.1
gathered_some j (feed.All ∷ fs) (n ∷ ns) p f long full here = absurd full.0
gathered_some j (feed.By lists ∷ fs) (n ∷ ns) [] f long full here = absurd here
gathered_some j (feed.By lists ∷ fs) (n ∷ ns) (i ∷ p) f long full here =
    flat_some (λ k. gathered k fs ns p (λ q. f (k ∷ q))) (get_or lists i []) (full.0 i [] here.0) (λ k. gathered_some k fs ns p (λ q. f (k ∷ q)) (omega arith) full.1 here.1)

-- ---- shapes

kept_cons : (f : Feed) (n m : ℕ) (fs : List Feed) (ns : List ℕ) → kept (f ∷ []) (n ∷ []) ≡ m ∷ [] → kept (f ∷ fs) (n ∷ ns) ≡ m ∷ kept fs ns
kept_cons feed.Keep n m fs ns e = let h : n ≡ m = cc in ap (λ k. k ∷ kept fs ns) h
kept_cons feed.All n m fs ns e = absurd cc
kept_cons (feed.By lists) n m fs ns e = let h : length lists ≡ m = cc in ap (λ k. k ∷ kept fs ns) h

pub feeds_long : (cs : List Change) (xs : List Axis) → length (feeds_by cs (axis_names xs)) ≡ length (shape_over xs)
feeds_long cs [] = refl
feeds_long cs (x ∷ xs) = ap suc (feeds_long cs xs)

feeds_fed : (cs : List Change) (xs : List Axis) → AllByRecursion (IsAxisFed cs) xs → AreFed (feeds_by cs (axis_names xs)) (shape_over xs)
feeds_fed cs [] all = tt
feeds_fed cs (x ∷ xs) all = (all.0.fed, feeds_fed cs xs all.1)

pub kept_is : (cs : List Change) (xs : List Axis) → AllByRecursion (IsAxisFed cs) xs → kept (feeds_by cs (axis_names xs)) (shape_over xs) ≡ shape_over (axes_by cs xs)
kept_is cs [] all = refl
kept_is cs (x ∷ xs) all = kept_cons (feed_by cs x.name) x.size (axis_by cs x).size (feeds_by cs (axis_names xs)) (shape_over xs) all.0.sized ∙ ap (λ ns. (axis_by cs x).size ∷ ns) (kept_is cs xs all.1)

dims_after : (cs : List Change) (xs : List Axis) → AllByRecursion (IsAxisFed cs) xs → AllByRecursion IsDimension (axes_by cs xs)
dims_after cs [] all = tt
dims_after cs (x ∷ xs) all = (all.0.dimension, dims_after cs xs all.1)

-- ---- how many axes are folded

none_folded : (c : Change) (ds : List (List ℕ)) → among ds c.dimension ≡ false → folded_axes (feeds_by (c ∷ []) ds) ≡ 0
none_folded c [] none = refl
none_folded c (d ∷ ds) none =
    let parts = or_parts (bytes_eq c.dimension d) (among ds c.dimension) none in
    ap (λ b. folded_axes (cond b (feed.By c.lists) feed.Keep ∷ feeds_by (c ∷ []) ds)) (bytes_eq_swap d c.dimension ∙ parts.0) ∙ none_folded c ds parts.1

one_folded : (c : Change) (ds : List (List ℕ)) → are_distinct ds ≡ true → is_grouped (c ∷ []) ds ≡ true → folded_axes (feeds_by (c ∷ []) ds) ≡ 1
one_folded c [] distinct some = absurd cc
one_folded c (d ∷ ds) distinct some = by (bytes_eq d c.dimension) refl some (distinct_parts d ds distinct) (one_folded c ds)
  where
    by : (b : Bool) → bytes_eq d c.dimension ≡ b → ((b || false) || is_grouped (c ∷ []) ds) ≡ true → (among ds d ≡ false) × (are_distinct ds ≡ true) → (are_distinct ds ≡ true → is_grouped (c ∷ []) ds ≡ true → folded_axes (feeds_by (c ∷ []) ds) ≡ 1)
        → folded_axes (cond b (feed.By c.lists) feed.Keep ∷ feeds_by (c ∷ []) ds) ≡ 1
    by true e some parts rest = ap suc (none_folded c ds (ap (among ds) (sym (same_text d c.dimension e)) ∙ parts.0))
    by false e some parts rest = rest parts.1 some

pub folded_alone : (cs : List Change) (ds : List (List ℕ)) → (c : Change) × (cs ≡ c ∷ []) → are_distinct ds ≡ true → is_grouped cs ds ≡ true → folded_axes (feeds_by cs ds) ≡ 1
folded_alone cs ds (c, is) distinct some =
    subst (λ es. folded_axes (feeds_by es ds) ≡ 1) (sym is) (one_folded c ds distinct (subst (λ es. is_grouped es ds ≡ true) is some))

-- ---- arrays

module _ (nodes : List Node) (k : FoldKind) (cs : List Change) (a : DataArray) (is : IsArrayIn nodes a) (method : of_groups k ≡ true) (each : AllByRecursion (IsAxisFed cs) a.axes) (full : AllByRecursion IsFull cs)
    (one : is_positional k ≡ true → folded_axes (feeds_by cs (axis_names a.axes)) ≡ 1) (few : size (shape_over (axes_by cs a.axes)) ≤ 33554432) where
  abbrev feeds : List Feed
  feeds = feeds_by cs (axis_names a.axes)

  abbrev before : List ℕ
  before = shape_over a.axes

  abbrev after : List Axis
  after = axes_by cs a.axes

  abbrev own : Array
  own = array_of (array_in nodes a)

  long : length feeds ≡ length before
  long = feeds_long cs a.axes

  to : kept feeds before ≡ shape_over after
  to = kept_is cs a.axes each

  low : length (shape_over after) ≤ 16
  low =
      let rank = is.formed.cells.low_rank in
      let there = length-map a.axes (λ (x : Axis). x.size) in
      let new = length-map after (λ (x : Axis). x.size) in
      let same = length-map a.axes (axis_by cs) in
      omega (arith, rank, there, new, same)

  seen_at : a.masked ≡ false → (q : List ℕ) → IsPoint before q → is_some (at own q) ≡ true
  seen_at plain q here = let below = place_below before q here in let whole = is.formed.cells.whole in is.formed.cells.seen plain (place before q) None (omega (arith, below, whole))

  seen : (b : Bool) → needs_cells k ≡ b → (b && a.masked) ≡ false → (p : List ℕ) → IsPoint (kept feeds before) p → is_some (fold_of k a.kind (gathered 0 feeds before p (at own))) ≡ true
  seen false e plain p here = always_there k a.kind (gathered 0 feeds before p (at own)) e
  seen true e plain p here =
      fold_there k a.kind (gathered 0 feeds before p (at own)) method
      (gathered_there 0 feeds before p (at own) long (feeds_fed cs a.axes each) (feeds_full cs full (axis_names a.axes)) here (seen_at plain)) (gathered_some 0 feeds before p (at own) long (feeds_full cs full (axis_names a.axes)) here)

  kept_cells : AreCells (kept feeds before) (folded_kind k a.kind) (masked_after k a.masked) (folded k feeds own).cells
  kept_cells = record {
    whole = tab-length (kept feeds before) (λ p. fold_of k a.kind (gathered 0 feeds before p (at own)));
    range = All-tab (IsCell (folded_kind k a.kind)) (kept feeds before) (λ p. fold_of k a.kind (gathered 0 feeds before p (at own)))
        (λ p here. let small = is.formed.cells.few in folded_cell k feeds own p (record { whole = is.formed.cells.whole; range = is.formed.cells.range }) long (feeds_fed cs a.axes each) here (omega (arith, small)));
    seen = λ plain. All-tab (λ c. is_some c ≡ true) (kept feeds before) (λ p. fold_of k a.kind (gathered 0 feeds before p (at own))) (seen (needs_cells k) refl plain);
    low_rank = subst (λ (s : List ℕ). length s ≤ 16) (sym to) low;
    few = subst (λ (s : List ℕ). size s ≤ 33554432) (sym to) few;
  }

  pub cells : AreCells (shape_over after) (folded_kind k a.kind) (masked_after k a.masked) (folded k feeds own).cells
  cells = subst (λ s. AreCells s (folded_kind k a.kind) (masked_after k a.masked) (folded k feeds own).cells) to kept_cells

  abbrev chain : Chain
  chain = record { start = starts.Node a.node; steps = step.Fold k feeds ∷ [] }

  pub chain_is : chain_value nodes chain ≡ folded k feeds own
  chain_is = ap (folded k feeds) (array_value nodes a is)

  pub chain_fits : ChainFits nodes chain
  chain_fits =
      let here = is.node.has_shape in
      record {
        start = is.node.placed;
        steps = (
          record {
            fits = (omega arith, subst (λ (s : List ℕ). length feeds ≡ length s) (sym here) long, subst (AreFed feeds) (sym here) (feeds_fed cs a.axes each), one);
            small = subst (λ (s : List ℕ). size (kept feeds s) ≤ most_node_cells) (sym here) (subst (λ (s : List ℕ). size s ≤ most_node_cells) (sym to) (omega (arith, few)));
            low_rank = subst (λ (s : List ℕ). length (kept feeds s) ≤ most_axes) (sym here) (subst (λ (s : List ℕ). length s ≤ most_axes) (sym to) low);
          },
          tt,
        );
      }

  pub chain_room : are_distinct (axis_names (axes_by cs a.axes)) ≡ true → chain_cells nodes chain ≤ 256 * span (axes_by cs a.axes)
  chain_room distinct =
      let shape : kept feeds (value nodes a.node).shape ≡ shape_over after = ap (kept feeds) is.node.has_shape ∙ to in
      let points = ap size shape in
      let most = points_above after after distinct (λ n e. e) (λ n. omega arith) in
      omega (arith, points, most)

  -- the array of the plan that is the fold
  module _ (new : List Node) (at_node : ℕ) (fill : Option (Option ℤ)) (bare : a.coords ≡ []) (distinct : are_distinct (axis_names (axes_by cs a.axes)) ≡ true) (there : IsValueOf new (chain_value nodes chain) at_node) where
    abbrev made : DataArray
    made = record { name = a.name; axes = after; kind = folded_kind k a.kind; masked = masked_after k a.masked; attrs = without_fills a.attrs; coords = []; node = at_node }

    value_is : value new at_node ≡ folded k feeds own
    value_is = there.is ∙ chain_is

    made_formed : IsDataArray (array_in new made)
    made_formed = record {
      name = is.formed.name;
      axes = record { each = dims_after cs a.axes each; distinct = distinct };
      coords = tt;
      distinct = ap are_distinct (append-nil (axis_names after)) ∙ distinct;
      attrs = attrs_left a.attrs is.formed.attrs;
      cells = subst (λ (x : Array). AreCells (shape_over after) (folded_kind k a.kind) (masked_after k a.masked) x.cells) (sym value_is) cells;
    }

    made_is : array_in new made ≡ array_listed k Never false cs fill (array_in nodes a)
    made_is = ap (λ (x : Array). with_both x.cells []) value_is ∙ ap (λ ys. with_both (folded k feeds own).cells (coords_left (dimensions cs) ys)) (sym bare)
      where
        with_both : List (Option ℤ) → List Coord → of.DataArray
        with_both xs ys = record { name = a.name; axes = after; kind = folded_kind k a.kind; masked = masked_after k a.masked; attrs = without_fills a.attrs; coords = ys; cells = xs }

    pub made_of : IsArrayOf new (array_listed k Never false cs fill (array_in nodes a)) made
    made_of = record {
      is = made_is;
      inside = record {
        node = record { placed = there.inside; has_shape = ap (λ (x : Array). x.shape) value_is ∙ to; has_kind = ap (λ (x : Array). x.kind) value_is };
        formed = made_formed;
      };
    }

-- as the code hands them on
module _ (old : List Node) (k : FoldKind) (cs : List Change) (fill : Option (Option ℤ)) (a : DataArray) (is : IsArrayIn old a) (fits : IsListing k Never cs fill a.axes a.kind) where
  folds_one : is_positional k ≡ true → folded_axes (feeds_by cs (axis_names a.axes)) ≡ 1
  folds_one e = folded_alone cs (axis_names a.axes) (fits.one e) is.formed.axes.distinct fits.grouped

  few_cells : size (shape_over (axes_by cs a.axes)) ≤ 33554432
  few_cells = size_passed (shape_over (axes_by cs a.axes)) fits.few

  pub fold_fits : (held : List Axis) (fs : List Feed) (c : Chain) → held ≡ a.axes → fs ≡ feeds_by cs (axis_names held) → c ≡ record { start = starts.Node a.node; steps = step.Fold k fs ∷ [] } → ChainFits old c
  fold_fits held fs c eo ef ec =
      subst (ChainFits old) (sym (ec ∙ ap (λ gs. record { start = starts.Node a.node; steps = step.Fold k gs ∷ [] }) (ef ∙ ap (λ (xs : List Axis). feeds_by cs (axis_names xs)) eo)))
      (chain_fits old k cs a is fits.method fits.each (fits.full refl) folds_one few_cells)

  pub fold_told : (new : List Node) (held axes : List Axis) (fs : List Feed) (c : Chain) (at_node : ℕ) (name : Option (List ℕ)) (kind : DType) (masked : Bool) (attrs : List Attr) (coords : List Coord) → a.coords ≡ [] → held ≡ a.axes → fs ≡ feeds_by cs (axis_names held)
      → c ≡ record { start = starts.Node a.node; steps = step.Fold k fs ∷ [] } → axes ≡ axes_by cs held → IsValueOf new (chain_value old c) at_node → AddsAtMost old new (chain_cells old c) → name ≡ a.name → kind ≡ folded_kind k a.kind → masked ≡ masked_after k a.masked → attrs ≡ without_fills a.attrs → coords ≡ []
      → IsArrayOf new (array_listed k Never false cs fill (array_in old a)) (record { name = name; axes = axes; kind = kind; masked = masked; attrs = attrs; coords = coords; node = at_node }) × AddsAtMost old new (256 * span (axes_by cs a.axes))
  fold_told new held axes fs c at_node name kind masked attrs coords bare eo ef ec ex there adds en ek em ea eb =
      let same : c ≡ record { start = starts.Node a.node; steps = step.Fold k (feeds_by cs (axis_names a.axes)) ∷ [] } =
      ec ∙ ap (λ gs. record { start = starts.Node a.node; steps = step.Fold k gs ∷ [] }) (ef ∙ ap (λ (xs : List Axis). feeds_by cs (axis_names xs)) eo) in
      let axes_are : axes ≡ axes_by cs a.axes = ex ∙ ap (axes_by cs) eo in (
        subst (IsArrayOf new (array_listed k Never false cs fill (array_in old a))) (λ i. record { name = sym en i; axes = sym axes_are i; kind = sym ek i; masked = sym em i; attrs = sym ea i; coords = sym eb i; node = at_node })
            (made_of old k cs a is fits.method fits.each (fits.full refl) folds_one few_cells new at_node fill bare fits.distinct (subst (λ d. IsValueOf new (chain_value old d) at_node) same there)),
        adds_up old new (chain_cells old c) (256 * span (axes_by cs a.axes))
            (subst (λ d. chain_cells old d ≤ 256 * span (axes_by cs a.axes)) (sym same) (chain_room old k cs a is fits.method fits.each (fits.full refl) folds_one few_cells fits.distinct)) adds,
      )

-- ---- lists that have positions are never too few

module _ (nodes : List Node) (k : FoldKind) (cs : List Change) (a : DataArray) (is : IsArrayIn nodes a) (each : AllByRecursion (IsAxisFed cs) a.axes) (full : AllByRecursion IsFull cs) where
  abbrev some_at : List ℕ → List (ℕ × Option ℤ)
  some_at p = gathered 0 (feeds_by cs (axis_names a.axes)) (shape_over a.axes) p (at (array_of (array_in nodes a)))

  not_empty : (p : List ℕ) → IsPoint (kept (feeds_by cs (axis_names a.axes)) (shape_over a.axes)) p → (length (some_at p) == 0) ≡ false
  not_empty p here = nonzero (length (some_at p)) (gathered_some 0 (feeds_by cs (axis_names a.axes)) (shape_over a.axes) p (at (array_of (array_in nodes a))) (feeds_long cs a.axes) (feeds_full cs full (axis_names a.axes)) here)
    where
      nonzero : (n : ℕ) → 0 < n → (n == 0) ≡ false
      nonzero n some = grind (arith, nat_tests, some)

  same_cells : (listed k Empty None (feeds_by cs (axis_names a.axes)) (array_of (array_in nodes a))).cells ≡ (listed k Never None (feeds_by cs (axis_names a.axes)) (array_of (array_in nodes a))).cells
  same_cells =
      tab_same (kept (feeds_by cs (axis_names a.axes)) (shape_over a.axes)) (λ p. cond (length (some_at p) == 0) None (fold_of k a.kind (some_at p))) (λ p. fold_of k a.kind (some_at p))
      (λ p here. ap (λ b. cond b None (fold_of k a.kind (some_at p))) (not_empty p here))

  or_false : (b : Bool) → (b || false) ≡ b
  or_false true = refl
  or_false false = refl

  pub same_array : array_listed k Never false cs None (array_in nodes a) ≡ array_listed k Empty false cs None (array_in nodes a)
  same_array = ap (λ xs. with_both (masked_after k a.masked) xs) (sym same_cells) ∙ ap (λ b. with_both b (listed k Empty None (feeds_by cs (axis_names a.axes)) (array_of (array_in nodes a))).cells) (sym (or_false (masked_after k a.masked)))
    where
      with_both : Bool → List (Option ℤ) → of.DataArray
      with_both b xs = record { name = a.name; axes = axes_by cs a.axes; kind = folded_kind k a.kind; masked = b; attrs = without_fills a.attrs; coords = coords_left (dimensions cs) a.coords; cells = xs }
