-- The answer of a method of an array in windows.
use Rattle.std.proofs.Common.{◌≡◌, ◌<◌, ◌≤◌, ◌+◌, ◌*◌, ◌-◌, ◌||◌, ℕ, ℤ, zero, suc, Bool, true, false, not, cond, List, [], ◌∷◌, length, map, get_or, min, Option, None, Some, is_none, is_some, All, Ok, refl, sym, ap, subst, ◌∙◌, arith}
use Rattle.std.specs.Prelude.{nat_lt, slice_set}
use Rattle.std.specs.Str.{bytes_eq}
use Rattle.std.specs.List.{range_with_len}
use Rattle.std.proofs.lemmas.Bool.Decides.{nat_tests}
use Rattle.std.proofs.lemmas.List.{length-map}
use Rattle.xr_types.specs.Names.{among, are_distinct, axis_names, shape_over}
use Rattle.xr_types.specs.Points.{size, IsPoint}
use Rattle.xr_types.specs.declared.axis.Axis.{Axis}
use Rattle.xr_types.specs.declared.fault.Fault.TheVariants.{BadArgument, WouldPromote}
use Rattle.xr_types.specs.declared.kind.DType.{DType}
use Rattle.xr_types.specs.declared.operation.FoldKind.{FoldKind}
use Rattle.xr_types.specs.declared.operation.FoldKind.TheVariants.{Sum, Prod, Min, Max, First, Last, ArgMin, ArgMax, Count, Any, All as every}
use Rattle.xr_arrays.specs.Added.{AddsAtMost}
use Rattle.xr_arrays.specs.declared.node.Feed.{Feed}
use Rattle.xr_arrays.specs.declared.node.Node.{Node}
use Rattle.xr_arrays.specs.Arrays.{Array, IsCell}
use Rattle.xr_arrays.specs.FeedPositions.{window}
use Rattle.xr_arrays.specs.Folds.{fold_of, folded_kind, present}
use Rattle.xr_arrays.specs.Nodes.{kept, value}
use Rattle.plan_core.specs.Plans.{Grows}
use Rattle.plan_core.proofs.Added.{adds_both, adds_up}
use Rattle.xr_defs.proofs.Spans.{points_above}
use Rattle.xr_defs.specs.Room.{span, AddsForAny}
use Rattle.xr_defs.specs.Selecting.{axis_called}
use Rattle.xr_defs.specs.Values as of
use Rattle.xr_defs.specs.Values.{array_of, without_fills}
use Rattle.xr_defs.specs.WellFormed.{AreCells, IsDataArray}
use Rattle.xr_values.specs.declared.data_array.DataArray.{DataArray}
use Rattle.xr_values.specs.Stands.{array_in, IsArrayIn}
use Rattle.xr_values.proofs.Grown.{array_kept, stays_array}
use Rattle.xr_formulas.specs.Chains.{chain_cells, chain_value, ChainFits, IsValueOf}
use Rattle.xr_formulas.specs.Mades.{formula_cells, formula_value, FormulaFits}
use Rattle.xr_formulas.proofs.Mades.{in_its_room}
use Rattle.xr_formulas.proofs.Pairs.{some_span}
use Rattle.xr_operations.specs.Reductions.{check_size}
use Rattle.xr_parts.specs.Frames.{IsFrame}
use Rattle.xr_parts.proofs.Axes.{called_cons}
use Rattle.xr_parts.proofs.Words.{distinct_parts, same_text}
use Rattle.xr_reducing.proofs.Reduced.{attrs_left, size_passed}
use Rattle.xr_groups.specs.declared.change.Change.{Change}
use Rattle.xr_groups.specs.declared.change.Least.TheVariants.{Fewer}
use Rattle.xr_groups.specs.Blocks.{before as reaches_before, behind as reaches_behind}
use Rattle.xr_groups.specs.Listed.{axes_by, feeds_by, is_grouped, listed, listed_cell}
use Rattle.xr_groups.specs.Methods.{array_by, array_listed, check_filled, check_given, fill_cell, of_groups, of_windows, window_masked}
use Rattle.xr_grouping.specs.declared.windows.WindowsAsked.{WindowsAsked}
use Rattle.xr_grouping.specs.Mades.{made_by}
use Rattle.xr_formulas.specs.declared.chain.Chain.{Chain}
use Rattle.xr_formulas.specs.declared.made.Formula.{Formula}
use Rattle.xr_grouping.specs.Windowed.{array_at, chosen, enough, folds_of, needs_no_test, plain, windows, AreAsked, IsAsked}
use Rattle.xr_grouping.proofs.Answering.{grouped_one, passes}
use Rattle.xr_grouping.proofs.BinAnswers.{fits_given}
use Rattle.xr_grouping.proofs.Changed.{windowed, AreWindows}
use Rattle.xr_grouping.proofs.Folding as folds
use Rattle.xr_grouping.proofs.Framed.{unchanged}
use Rattle.xr_grouping.proofs.Listing.{all_there, cells_listed, found, found_length, listed_place}
use Rattle.xr_grouping.proofs.Named.{one_of, IsOne}
use Rattle.xr_grouping.proofs.OneList.{place}
use Rattle.xr_grouping.proofs.Present.{fold_there, present_there, some_present}
use Rattle.xr_grouping.proofs.PlainWindows as plains
use Rattle.xr_grouping.proofs.Tested as tested
use Rattle.xr_grouping.proofs.Untested.{folds_untested}
use Rattle.xr_grouping.proofs.Windowing as cells
use Rattle.xr_grouping.proofs.Windowing.{test_over}

windows_are : (k : FoldKind) → of_windows k ≡ true → of_groups k ≡ true
windows_are Sum e = refl
windows_are Prod e = refl
windows_are Min e = refl
windows_are Max e = refl
windows_are Count e = refl
windows_are Any e = refl
windows_are every e = refl
windows_are First e = refl
windows_are Last e = refl
windows_are ArgMin e = absurd cc
windows_are ArgMax e = absurd cc

-- ---- a window has its own position

window_full : (n u v i : ℕ) → i < n → 0 < length (window n u v i)
window_full n u v i lt = let le : i + 1 ≤ min (i + v + 1) n = grind (arith, lt) in some (i - u) (min (i + v + 1) n - (i - u)) (omega (arith, le))
  where
    some : (a m : ℕ) → 0 < m → 0 < length (range_with_len a m)
    some a zero lt = absurd (omega (arith, lt))
    some a (suc m) lt = omega arith

windows_full : (n u v a m : ℕ) → a + m ≤ n → All (λ ps. 0 < length ps) (map (window n u v) (range_with_len a m))
windows_full n u v a zero le i d lt = absurd (omega (arith, lt))
windows_full n u v a (suc m) le zero d lt = window_full n u v a (omega (arith, le))
windows_full n u v a (suc m) le (suc i) d lt = windows_full n u v (a + 1) m (omega (arith, le)) i d (omega (arith, lt))

-- ---- the axes stay

axes_stay : (c : Change) (axes : List Axis) → are_distinct (axis_names axes) ≡ true → c.axis ≡ axis_called axes c.dimension → axes_by (c ∷ []) axes ≡ axes
axes_stay c [] distinct same = refl
axes_stay c (x ∷ xs) distinct same = by (bytes_eq x.name c.dimension) refl (called_cons x xs c.dimension) (axes_stay c xs (distinct_parts x.name (axis_names xs) distinct).1)
  where
    by : (b : Bool) → bytes_eq x.name c.dimension ≡ b → axis_called (x ∷ xs) c.dimension ≡ cond b x (axis_called xs c.dimension) → (c.axis ≡ axis_called xs c.dimension → axes_by (c ∷ []) xs ≡ xs) → cond b c.axis x ∷ axes_by (c ∷ []) xs ≡ x ∷ xs
    by true e called rest =
        let none : among (axis_names xs) c.dimension ≡ false = ap (among (axis_names xs)) (sym (same_text x.name c.dimension e)) ∙ (distinct_parts x.name (axis_names xs) distinct).0 in
        ap (λ y. y ∷ axes_by (c ∷ []) xs) (same ∙ called) ∙ ap (λ ys. x ∷ ys) (unchanged c xs none)
    by false e called rest = ap (λ ys. x ∷ ys) (rest (same ∙ called))

some_or_none : {A : Type 0} (o : Option A) → is_none o ≡ false → is_some o ≡ true
some_or_none None e = absurd cc
some_or_none (Some x) e = refl

not_more : (m : ℕ) → (false || not (nat_lt 1 m)) ≡ true → m ≤ 1
not_more m e = by (nat_lt 1 m) refl e
  where
    by : (b : Bool) → nat_lt 1 m ≡ b → (false || not b) ≡ true → m ≤ 1
    by true t e = absurd cc
    by false t e = grind (arith, nat_tests, t)

module _ (old : List Node) (k : FoldKind) (m : ℕ) (a : DataArray) (p : WindowsAsked) (is : IsArrayIn old a) (some : 1 ≤ m) (d : List ℕ) (w : ℕ) (center : Bool) (asked : IsAsked k d w center m a p) where
  frame : IsFrame a.axes a.coords
  frame = record { dims = is.formed.axes; over = is.formed.coords; distinct = is.formed.distinct }

  win : AreWindows a.axes a.coords [] frame p.changes d w center
  win = windowed a.axes a.coords [] frame p.changes d w center m asked.changes

  abbrev c : Change
  c = win.change

  one : IsOne a.axes a.coords c
  one = one_of a.axes a.coords c frame win.windowed.formed

  method : of_groups k ≡ true
  method = windows_are k (passes (of_windows k) BadArgument asked.method)

  abbrev dims : List (List ℕ)
  dims = axis_names a.axes

  abbrev before : List ℕ
  before = shape_over a.axes

  abbrev after : List Axis
  after = axes_by (c ∷ []) a.axes

  abbrev feeds : List Feed
  feeds = feeds_by (c ∷ []) dims

  abbrev kind : DType
  kind = folded_kind k a.kind

  abbrev fill : Option ℤ
  fill = fill_cell p.fill

  abbrev own : Array
  own = array_of (array_in old a)

  stay : after ≡ a.axes
  stay = axes_stay c a.axes is.formed.axes.distinct (win.windowed.same ∙ ap (axis_called a.axes) (sym win.windowed.dimension))

  few : size (shape_over after) ≤ 33554432
  few = size_passed (shape_over after) (subst (λ ds. check_size (shape_over (axes_by ds a.axes)) ≡ Ok tt) win.is asked.few)

  suits : IsCell kind fill
  suits = by p.fill asked.suits
    where
      by : (f : Option (Option ℤ)) → check_given kind f ≡ Ok tt → IsCell kind (fill_cell f)
      by None e = tt
      by (Some x) e = fits_given kind x e

  axes_are : p.axes ≡ after
  axes_are = asked.axes ∙ ap (λ ds. axes_by ds a.axes) win.is

  -- ---- the cells

  long : length dims ≡ length before
  long = folds.long old k c a is method one few

  inside : place c dims < length before
  inside = folds.inside old k c a is method one few

  shaped : kept feeds before ≡ slice_set before (place c dims) (length c.lists)
  shaped = folds.shaped old k c a is method one few

  to : kept feeds before ≡ shape_over after
  to = folds.to old k c a is method one few

  abbrev found_at : List ℕ → List (ℕ × Option ℤ)
  found_at q = found k (Fewer m) fill c dims before a.kind a.masked own.cells is.formed.cells long one.has is.formed.axes.distinct inside one.fed shaped q

  full : All (λ ps. 0 < length ps) c.lists
  full =
      let n : ℕ = (axis_called a.axes d).size in
      subst (λ ls. All (λ ps. 0 < length ps) ls) (sym win.windowed.lists) (windows_full n (reaches_before w center) (reaches_behind w center) 0 n (omega arith))

  some_found : (q : List ℕ) → IsPoint (kept feeds before) q → 0 < length (found_at q)
  some_found q here =
      let same = found_length k (Fewer m) fill c dims before a.kind a.masked own.cells is.formed.cells long one.has is.formed.axes.distinct inside one.fed shaped q here in
      let there = full (get_or q (place c dims) 0) [] (listed_place k (Fewer m) fill c dims before a.kind a.masked own.cells is.formed.cells long one.has is.formed.axes.distinct inside one.fed shaped q here) in
      omega (arith, same, there)

  abbrev masked : Bool
  masked = window_masked a.masked p.fill

  abbrev count_at : List ℕ → ℕ
  count_at q = length (present (found_at q))

  seen : masked ≡ false → (q : List ℕ) → IsPoint (kept feeds before) q → is_some (listed_cell k (Fewer m) fill a.kind (found_at q)) ≡ true
  unfolding check_filled
  seen plain q here = by p.fill plain asked.filled (nat_lt (count_at q) m) refl
    where
      by : (f : Option (Option ℤ)) → window_masked a.masked f ≡ false → check_filled (Fewer m) p.changes (is_some f) ≡ Ok tt → (b : Bool) → nat_lt (count_at q) m ≡ b → is_some (cond b (fill_cell f) (fold_of k a.kind (found_at q))) ≡ true
      by None plain e b t =
          let there = all_there k (Fewer m) fill c dims before a.kind a.masked own.cells is.formed.cells long one.has is.formed.axes.distinct inside one.fed shaped plain q here in
          let le = not_more m (passes (false || not (nat_lt 1 m)) WouldPromote e) in
          let there_some = some_present (found_at q) there (some_found q here) in
          last b t (λ u. grind (arith, nat_tests, u, le, there_some)) (fold_there k a.kind (found_at q) method there (some_found q here))
        where
          last : (b : Bool) → nat_lt (count_at q) m ≡ b → (nat_lt (count_at q) m ≡ true → ⊥) → is_some (fold_of k a.kind (found_at q)) ≡ true → is_some (cond b None (fold_of k a.kind (found_at q))) ≡ true
          last true t never is = absurd (never t)
          last false t never is = is
      by (Some x) plain e true t = some_or_none x plain
      by (Some x) plain e false t = present_there k a.kind (found_at q) method (grind (arith, nat_tests, t, some))

  abbrev cells_of : Array
  cells_of = listed k (Fewer m) fill feeds own

  are_cells : AreCells (shape_over after) kind masked cells_of.cells
  are_cells =
      subst (λ s. AreCells s kind masked cells_of.cells) to
      (cells_listed k (Fewer m) fill c dims before a.kind a.masked own.cells is.formed.cells long one.has is.formed.axes.distinct inside one.fed shaped masked suits (folds.small old k c a is method one few) (folds.low old k c a is method one few) seen)

  abbrev means : of.DataArray
  means = array_listed k (Fewer m) true (c ∷ []) p.fill (array_in old a)

  formed : IsDataArray means
  formed =
      let f : IsFrame after a.coords = subst (λ xs. IsFrame xs a.coords) (sym stay) frame in
      record { name = is.formed.name; axes = f.dims; coords = f.over; distinct = f.distinct; attrs = attrs_left a.attrs is.formed.attrs; cells = are_cells }

  -- ---- in a plan

  both : (P : List Change → List Axis → Type 0) → P (c ∷ []) after → P p.changes p.axes
  both P held = subst (λ ds. P ds p.axes) (sym win.is) (subst (P (c ∷ [])) (sym axes_are) held)

  pub few_axes : length p.axes ≤ 16
  few_axes =
      let rank = is.formed.cells.low_rank in
      let there = length-map a.axes (λ (x : Axis). x.size) in
      let same = ap length (axes_are ∙ stay) in
      omega (arith, rank, there, same)

  -- as it is asked
  abbrev asked_cells : Array
  asked_cells = windows k m p (array_in old a)

  are_asked : cells_of ≡ asked_cells
  are_asked = ap (λ ds. listed k (Fewer m) fill (feeds_by ds dims) own) (sym win.is)

  spanned : size (shape_over after) ≤ span after
  spanned = points_above after after (subst (λ xs. are_distinct (axis_names xs) ≡ true) (sym stay) is.formed.axes.distinct) (λ n e. e) (λ n. omega arith)

  few_added : (new : List Node) (n : ℕ) → n ≤ 256 * span after → AddsAtMost old new n → AddsAtMost old new (256 * span (axes_by p.changes a.axes))
  few_added new n le added = subst (λ ds. AddsAtMost old new (256 * span (axes_by ds a.axes))) (sym win.is) (adds_up old new n (256 * span after) le added)

  -- ---- where no cell is missing

  module _ (whole : a.masked ≡ false) where
    abbrev chain : List Change → Chain
    chain ds = plain k ds m fill a

    pub plain_fit : ChainFits old (chain p.changes)
    plain_fit = subst (λ ds. ChainFits old (chain ds)) (sym win.is) (plains.plain_fits old k c a is method one few m fill suits whole)

    plain_are : chain_value old (chain p.changes) ≡ asked_cells
    plain_are = ap (λ ds. chain_value old (chain ds)) win.is ∙ plains.plain_is old k c a is method one few m fill suits whole ∙ are_asked

    pub plain_value : (new : List Node) (n : ℕ) → IsValueOf new (chain_value old (chain p.changes)) n → IsValueOf new asked_cells n
    plain_value new n node = record { inside = node.inside; is = node.is ∙ plain_are }

    pub plain_added : (new : List Node) → AddsAtMost old new (chain_cells old (chain p.changes)) → AddsAtMost old new (256 * span (axes_by p.changes a.axes))
    plain_added new added = few_added new (chain_cells old (chain p.changes)) bound added
      where
        bound : chain_cells old (chain p.changes) ≤ 256 * span after
        bound =
            let u : chain_cells old (chain p.changes) ≤ 2 * size (shape_over after) = subst (λ ds. chain_cells old (chain ds) ≤ 2 * size (shape_over after)) (sym win.is) (plains.plain_few old k c a is method one few m fill suits whole) in
            let most = spanned in
            omega (arith, u, most)

  -- ---- where a window with too few present cells has none, and is missing

  module _ (untested : needs_no_test k m fill ≡ true) where
    abbrev folds_asked : Chain
    folds_asked = folds_of k p.changes a

    pub folds_fit : ChainFits old folds_asked
    folds_fit = subst (λ ds. ChainFits old (folds_of k ds a)) (sym win.is) (cells.folds_fit old c a is one few k method)

    folds_are : chain_value old folds_asked ≡ asked_cells
    folds_are = ap (λ ds. chain_value old (folds_of k ds a)) win.is ∙ folds_untested old k c a is m fill untested ∙ are_asked

    pub folds_value : (new : List Node) (n : ℕ) → IsValueOf new (chain_value old folds_asked) n → IsValueOf new asked_cells n
    folds_value new n node = record { inside = node.inside; is = node.is ∙ folds_are }

    pub folds_added : (new : List Node) → AddsAtMost old new (chain_cells old folds_asked) → AddsAtMost old new (256 * span (axes_by p.changes a.axes))
    folds_added new added = few_added new (chain_cells old folds_asked) bound added
      where
        bound : chain_cells old folds_asked ≤ 256 * span after
        bound =
            let u : chain_cells old folds_asked ≤ size (shape_over after) = subst (λ ds. chain_cells old (folds_of k ds a) ≤ size (shape_over after)) (sym win.is) (cells.folds_few old c a is one few k) in
            let most = spanned in
            omega (arith, u, most)

  -- ---- where each window is tested

  pub tests_fit : FormulaFits old (enough p.changes m p.axes a)
  tests_fit = both (λ ds xs. FormulaFits old (enough ds m xs a)) (tested.enough_fits old c a is one few m)

  module _ (mid : List Node) (grown : Grows old mid) (t : ℕ) (test : IsValueOf mid (formula_value old (enough p.changes m p.axes a)) t) where
    here : IsArrayIn mid a
    here = stays_array old mid a grown is

    tests : value mid t ≡ cells.test mid c a here one few m
    tests =
        test.is ∙ both (λ ds xs. formula_value old (enough ds m xs a) ≡ cells.test old c a is one few m) (tested.enough_is old c a is one few m)
        ∙ ap (λ (v : of.DataArray). test_over c a m (array_of v)) (sym (array_kept old mid a grown is))

    pub cells_fit : FormulaFits mid (chosen k p.changes fill t p.axes a)
    cells_fit = both (λ ds xs. FormulaFits mid (chosen k ds fill t xs a)) (cells.chosen_fits mid c a here one few k method m fill suits t test.inside tests)

    cells_are : formula_value mid (chosen k p.changes fill t p.axes a) ≡ cells_of
    cells_are =
        both (λ ds xs. formula_value mid (chosen k ds fill t xs a) ≡ listed k (Fewer m) fill feeds (array_of (array_in mid a))) (cells.chosen_is mid c a here one few k method m fill suits t test.inside tests)
        ∙ ap (λ (v : of.DataArray). listed k (Fewer m) fill feeds (array_of v)) (array_kept old mid a grown is)

    module _ (new : List Node) where
      pub tested_value : (n : ℕ) → IsValueOf new (formula_value mid (chosen k p.changes fill t p.axes a)) n → IsValueOf new asked_cells n
      tested_value n node = record { inside = node.inside; is = node.is ∙ cells_are ∙ are_asked }

      abbrev both_cells : ℕ
      both_cells = formula_cells old (enough p.changes m p.axes a) + formula_cells mid (chosen k p.changes fill t p.axes a)

      bound : both_cells ≤ 256 * span after
      bound =
          let u : formula_cells old (enough p.changes m p.axes a) ≤ 3 + size before + 18 * size (shape_over after) =
          both (λ ds xs. formula_cells old (enough ds m xs a) ≤ 3 + size before + 18 * size (shape_over after)) (tested.enough_few old c a is one few m) in
          let same = ap (λ xs. size (shape_over xs)) stay in
          let v : formula_cells mid (chosen k p.changes fill t p.axes a) ≤ 3 + 18 * size (shape_over after) =
          both (λ ds xs. formula_cells mid (chosen k ds fill t xs a) ≤ 3 + 18 * size (shape_over after)) (cells.chosen_few mid c a here one few k method m fill suits t test.inside tests) in
          let most = spanned in
          let least = some_span after in
          omega (arith, u, v, same, most, least)

      pub tested_added : AddsAtMost old mid (formula_cells old (enough p.changes m p.axes a)) → AddsAtMost mid new (formula_cells mid (chosen k p.changes fill t p.axes a)) → AddsAtMost old new (256 * span (axes_by p.changes a.axes))
      tested_added first second = few_added new both_cells bound (adds_both old mid new (formula_cells old (enough p.changes m p.axes a)) (formula_cells mid (chosen k p.changes fill t p.axes a)) first second)

  -- ---- the array of a node with these cells

  module _ (new : List Node) (n : ℕ) (node : IsValueOf new asked_cells n) where
    abbrev result : DataArray
    result = array_at k p.changes p.fill n a

    valued : value new n ≡ cells_of
    valued = node.is ∙ sym are_asked

    result_is : array_in new (array_at k (c ∷ []) p.fill n a) ≡ means
    result_is = ap (λ (v : Array). of_cells v.cells) valued
      where
        of_cells : List (Option ℤ) → of.DataArray
        of_cells xs = record { name = a.name; axes = after; kind = kind; masked = masked; attrs = without_fills a.attrs; coords = a.coords; cells = xs }

    one_in : IsArrayIn new (array_at k (c ∷ []) p.fill n a)
    one_in = record {
      node = record { placed = node.inside; has_shape = ap (λ (v : Array). v.shape) valued ∙ to; has_kind = ap (λ (v : Array). v.kind) valued };
      formed = subst IsDataArray (sym result_is) formed;
    }

    grouped : is_grouped p.changes dims ≡ true
    grouped = ap (λ ds. is_grouped ds dims) win.is ∙ grouped_one c dims one.has

    pub answers : (array_by k (Fewer m) true p.changes p.fill (array_in old a) ≡ array_in new result) × IsArrayIn new result
    answers = (
      ap (λ b. cond b (array_listed k (Fewer m) true p.changes p.fill (array_in old a)) (array_in old a)) grouped
          ∙ ap (λ ds. array_listed k (Fewer m) true ds p.fill (array_in old a)) win.is ∙ sym result_is ∙ ap (λ ds. array_in new (array_at k ds p.fill n a)) (sym win.is),
      subst (λ ds. IsArrayIn new (array_at k ds p.fill n a)) (sym win.is) one_in,
    )

    pub room : AddsAtMost old new (256 * span (axes_by p.changes a.axes)) → AddsForAny old new (array_in new result)
    room added = in_its_room old new (256 * span (axes_by p.changes a.axes)) (made_by k masked p.changes (folds_of k p.changes a) a) (array_in new result) refl (omega arith) added

-- as the code hands them on
module _ (old : List Node) (k : FoldKind) (m : ℕ) (a : DataArray) (p : WindowsAsked) (is : IsArrayIn old a) (some : 1 ≤ m) (asked : AreAsked k m a p) where
  module _ (slice : List Change) (es : slice ≡ p.changes) where
    -- where no cell is missing
    module _ (whole : a.masked ≡ false) (fill : Option ℤ) (ef : fill ≡ fill_cell p.fill) (cells : Chain) (ec : cells ≡ plain k slice m fill a) where
      same_chain : cells ≡ plain k p.changes m (fill_cell p.fill) a
      same_chain = ec ∙ ap (λ ds. plain k ds m fill a) es ∙ ap (λ y. plain k p.changes m y a) ef

      pub plain_first : ChainFits old cells
      plain_first = subst (ChainFits old) (sym same_chain) (plain_fit old k m a p is some asked.0 asked.1 asked.2 asked.3 whole)

      pub plain_node : (new : List Node) (n : ℕ) → IsValueOf new (chain_value old cells) n → IsValueOf new (windows k m p (array_in old a)) n
      plain_node new n node = plain_value old k m a p is some asked.0 asked.1 asked.2 asked.3 whole new n (subst (λ x. IsValueOf new (chain_value old x) n) same_chain node)

      pub plain_cells : (new : List Node) → AddsAtMost old new (chain_cells old cells) → AddsAtMost old new (256 * span (axes_by p.changes a.axes))
      plain_cells new added = plain_added old k m a p is some asked.0 asked.1 asked.2 asked.3 whole new (subst (λ x. AddsAtMost old new (chain_cells old x)) same_chain added)

    -- where the folds are all
    module _ (untested : needs_no_test k m (fill_cell p.fill) ≡ true) (cells : Chain) (ec : cells ≡ folds_of k slice a) where
      same_folds : cells ≡ folds_of k p.changes a
      same_folds = ec ∙ ap (λ ds. folds_of k ds a) es

      pub folds_first : ChainFits old cells
      folds_first = subst (ChainFits old) (sym same_folds) (folds_fit old k m a p is some asked.0 asked.1 asked.2 asked.3 untested)

      pub folds_node : (new : List Node) (n : ℕ) → IsValueOf new (chain_value old cells) n → IsValueOf new (windows k m p (array_in old a)) n
      folds_node new n node = folds_value old k m a p is some asked.0 asked.1 asked.2 asked.3 untested new n (subst (λ x. IsValueOf new (chain_value old x) n) same_folds node)

      pub folds_cells : (new : List Node) → AddsAtMost old new (chain_cells old cells) → AddsAtMost old new (256 * span (axes_by p.changes a.axes))
      folds_cells new added = folds_added old k m a p is some asked.0 asked.1 asked.2 asked.3 untested new (subst (λ x. AddsAtMost old new (chain_cells old x)) same_folds added)

    -- where they are tested
    module _ (own : List Axis) (eo : own ≡ p.axes) (tests : Formula) (et : tests ≡ enough slice m own a) where
      first : tests ≡ enough p.changes m p.axes a
      first = et ∙ ap (λ ds. enough ds m own a) es ∙ ap (λ xs. enough p.changes m xs a) eo

      pub handed_first : FormulaFits old tests
      handed_first = subst (FormulaFits old) (sym first) (tests_fit old k m a p is some asked.0 asked.1 asked.2 asked.3)

      module _ (mid : List Node) (grown : Grows old mid) (t : ℕ) (test : IsValueOf mid (formula_value old tests) t) (fill : Option ℤ) (ef : fill ≡ fill_cell p.fill) (cells : Formula) (ec : cells ≡ chosen k slice fill t own a) where
        second : cells ≡ chosen k p.changes (fill_cell p.fill) t p.axes a
        second = ec ∙ ap (λ ds. chosen k ds fill t own a) es ∙ ap (λ xs. chosen k p.changes fill t xs a) eo ∙ ap (λ y. chosen k p.changes y t p.axes a) ef

        test_is : IsValueOf mid (formula_value old (enough p.changes m p.axes a)) t
        test_is = subst (λ f. IsValueOf mid (formula_value old f) t) first test

        pub handed_second : FormulaFits mid cells
        handed_second = subst (FormulaFits mid) (sym second) (cells_fit old k m a p is some asked.0 asked.1 asked.2 asked.3 mid grown t test_is)

        pub handed_node : (new : List Node) (n : ℕ) → IsValueOf new (formula_value mid cells) n → IsValueOf new (windows k m p (array_in old a)) n
        handed_node new n node = tested_value old k m a p is some asked.0 asked.1 asked.2 asked.3 mid grown t test_is new n (subst (λ f. IsValueOf new (formula_value mid f) n) second node)

        pub handed_cells : (new : List Node) → AddsAtMost old mid (formula_cells old tests) → AddsAtMost mid new (formula_cells mid cells) → AddsAtMost old new (256 * span (axes_by p.changes a.axes))
        handed_cells new one two =
            tested_added old k m a p is some asked.0 asked.1 asked.2 asked.3 mid grown t test_is new (subst (λ f. AddsAtMost old mid (formula_cells old f)) first one) (subst (λ f. AddsAtMost mid new (formula_cells mid f)) second two)

    -- the array
    module _ (new : List Node) (n : ℕ) (node : IsValueOf new (windows k m p (array_in old a)) n) (array : DataArray) (ea : array ≡ array_at k slice p.fill n a) where
      same : array ≡ array_at k p.changes p.fill n a
      same = ea ∙ ap (λ ds. array_at k ds p.fill n a) es

      pub array_answer : (array_by k (Fewer m) true p.changes p.fill (array_in old a) ≡ array_in new array) × IsArrayIn new array
      array_answer =
          subst (λ b. (array_by k (Fewer m) true p.changes p.fill (array_in old a) ≡ array_in new b) × IsArrayIn new b) (sym same)
          (answers old k m a p is some asked.0 asked.1 asked.2 asked.3 new n node)

      pub array_room : AddsAtMost old new (256 * span (axes_by p.changes a.axes)) → AddsForAny old new (array_in new array)
      array_room added =
          subst (λ b. AddsForAny old new (array_in new b)) (sym same)
          (room old k m a p is some asked.0 asked.1 asked.2 asked.3 new n node added)

      pub array_cells : AddsAtMost old new (256 * span (axes_by p.changes a.axes)) → AddsAtMost old new (256 * span array.axes)
      array_cells added = subst (λ (b : DataArray). AddsAtMost old new (256 * span b.axes)) (sym same) added
