-- Which windows have enough present cells, by truth values that tell which cells are present.
use Rattle.std.proofs.Common.{◌≡◌, ◌<◌, ◌≤◌, ◌+◌, ◌*◌, ◌==◌, ◌||◌, ℕ, suc, ℤ, pos, Bool, true, false, cond, List, [], ◌∷◌, length, get_or, Option, Some, None, is_some, refl, sym, ap, subst, ◌∙◌, arith}
use Rattle.std.specs.Prelude.{int_le, nat_le, nat_lt, slice_set}
use Rattle.std.specs.List.{list_all, list_any}
use Rattle.std.proofs.lemmas.Int.{ints}
use Rattle.std.proofs.lemmas.Bool.Decides.{nat_tests}
use Rattle.xr_types.specs.Names.{axis_names, shape_over}
use Rattle.xr_types.specs.Points.{size, IsPoint}
use Rattle.xr_types.specs.declared.axis.Axis.{Axis}
use Rattle.xr_types.specs.declared.kind.DType.TheVariants.{Bool as truths}
use Rattle.xr_types.specs.declared.operation.FoldKind.TheVariants.{Any, All as every, Count}
use Rattle.xr_types.specs.declared.operation.OpKind.TheVariants.{NotNull}
use Rattle.xr_arrays.specs.declared.node.Feed.{Feed}
use Rattle.xr_arrays.specs.declared.node.Node.{Node}
use Rattle.xr_arrays.specs.declared.node.Node.TheVariants.{Source}
use Rattle.xr_arrays.specs.Arrays.{Array, at, made}
use Rattle.xr_arrays.specs.Elements.{elem, flag, unary_kind, unary_of}
use Rattle.xr_arrays.specs.Folds.{fold_of, is_nonzero, numbers, present, truth}
use Rattle.xr_arrays.specs.Nodes.{folded, gathered, kept, node_value, value, ArePositions}
use Rattle.plan_core.proofs.Arrangements.{zero_in}
use Rattle.plan_core.proofs.Tabs.{tab_same}
use Rattle.xr_defs.specs.Values.{array_of}
use Rattle.xr_values.specs.declared.data_array.DataArray.{DataArray}
use Rattle.xr_values.specs.Stands.{array_in, IsArrayIn}
use Rattle.xr_values.proofs.Grown.{array_value}
use Rattle.xr_formulas.specs.declared.chain.Step.{Step}
use Rattle.xr_formulas.specs.declared.chain.Step.TheVariants as step
use Rattle.xr_formulas.specs.declared.made.Formula.TheVariants.{One}
use Rattle.xr_formulas.specs.Chains.{chain_cells, chain_value, steps_cells, steps_value, ChainFits, StepFits, StepsFit}
use Rattle.xr_formulas.specs.Mades.{formula_cells, formula_value, FormulaFits}
use Rattle.xr_formulas.proofs.Answered.{tests_present}
use Rattle.xr_formulas.proofs.Changes.{change_makes, step_fits}
use Rattle.xr_formulas.proofs.Points.{made_at}
use Rattle.xr_groups.specs.declared.change.Change.{Change}
use Rattle.xr_groups.specs.declared.change.Least.TheVariants.{Fewer}
use Rattle.xr_groups.specs.Listed.{axes_by, feeds_by, listed, listed_cell}
use Rattle.xr_grouping.specs.Fills.{has_long, short_filling}
use Rattle.xr_grouping.specs.Windowed.{counted, each_cell, enough, enough_cells, some_cell}
use Rattle.xr_grouping.proofs.Folding as folds
use Rattle.xr_grouping.proofs.Gapped as gapped
use Rattle.xr_grouping.proofs.Gaps.{none_long}
use Rattle.xr_grouping.proofs.Listing.{point_put}
use Rattle.xr_grouping.proofs.Named.{IsOne}
use Rattle.xr_grouping.proofs.OneList.{cells_at, one_list, place, Cells}
use Rattle.xr_grouping.proofs.PlainWindows as plains
use Rattle.xr_grouping.proofs.Windowing as cells
use Rattle.xr_grouping.proofs.Windowing.{present_few, test_over}

-- ---- truth values in the place of cells

abbrev tells : Cells → Cells
tells [] = []
tells ((p, x) ∷ cs) = (p, Some (flag (is_some x))) ∷ tells cs

tells_long : (cs : Cells) → length (present (tells cs)) ≡ length cs
tells_long [] = refl
tells_long ((p, x) ∷ cs) = ap suc (tells_long cs)

same_test : (b t : Bool) → (b ≡ true → t ≡ false → ⊥) → (b ≡ false → t ≡ true → ⊥) → b ≡ t
same_test true true up down = refl
same_test true false up down = absurd (up refl refl)
same_test false true up down = absurd (down refl refl)
same_test false false up down = refl

more_than_none : (n : ℕ) → true ≡ nat_lt 0 (suc n)
more_than_none n = same_test true (nat_lt 0 (suc n)) (λ e t. grind (arith, nat_tests, t)) (λ e t. absurd cc)

fewer_than_all : (long n : ℕ) → n ≤ long → false ≡ nat_le (suc long) n
fewer_than_all long n le = same_test false (nat_le (suc long) n) (λ e t. absurd cc) (λ e t. grind (arith, nat_tests, t, le))

both_one_more : (long n : ℕ) → nat_le long n ≡ nat_le (suc long) (suc n)
both_one_more long n = same_test (nat_le long n) (nat_le (suc long) (suc n)) (λ e t. grind (arith, nat_tests, e, t)) (λ e t. grind (arith, nat_tests, e, t))

some_told : (cs : Cells) → list_any is_nonzero (numbers (present (tells cs))) ≡ nat_lt 0 (length (present cs))
some_told [] = refl
some_told ((p, None) ∷ cs) = some_told cs
some_told ((p, Some x) ∷ cs) = more_than_none (length (present cs))

each_told : (cs : Cells) → list_all is_nonzero (numbers (present (tells cs))) ≡ nat_le (length cs) (length (present cs))
each_told [] = refl
each_told ((p, None) ∷ cs) = fewer_than_all (length cs) (length (present cs)) (present_few cs)
each_told ((p, Some x) ∷ cs) = each_told cs ∙ both_one_more (length cs) (length (present cs))

-- the truth values of the cells at positions
module _ (n : ℕ) (p : List ℕ) (k : ℕ) (f g : List ℕ → Option ℤ) (same : (i : ℕ) → i < n → f (slice_set p k i) ≡ Some (flag (is_some (g (slice_set p k i))))) where
  told_at : (from : ℕ) (ps : List ℕ) → ArePositions n from ps → cells_at p k f ps ≡ tells (cells_at p k g ps)
  told_at from [] are = refl
  told_at from (i ∷ ps) are = ap (λ x. (i, x) ∷ cells_at p k f ps) (same i are.1) ∙ ap (λ cs. (i, Some (flag (is_some (g (slice_set p k i))))) ∷ cs) (told_at (suc i) ps are.2)

-- ---- the test of a window

abbrev test_cell : ℕ → Cells → Option ℤ
test_cell m cs = Some (flag (int_le (enough_cells m) (pos (length (present cs)))))

truth_is : (b : Bool) → truth b ≡ flag b
truth_is true = refl
truth_is false = refl

same_truth : (b t : Bool) → b ≡ t → Some (truth b) ≡ Some (flag t)
same_truth b t same = ap (λ x. Some x) (truth_is b ∙ ap flag same)

one_enough : (n : ℕ) → nat_lt 0 n ≡ int_le (enough_cells 1) (pos n)
one_enough n = same_test (nat_lt 0 n) (int_le (enough_cells 1) (pos n)) (λ e t. grind (arith, ints, nat_tests, e, t)) (λ e t. grind (arith, ints, nat_tests, e, t))

all_enough : (n long m : ℕ) → n ≤ long → long ≤ m → long ≤ 33554432 → cond (nat_lt long m) (Some (pos 0)) (Some (truth (nat_le long n))) ≡ Some (flag (int_le (enough_cells m) (pos n)))
all_enough n long m le most few = by (nat_lt long m) refl
  where
    by : (b : Bool) → nat_lt long m ≡ b → cond b (Some (pos 0)) (Some (truth (nat_le long n))) ≡ Some (flag (int_le (enough_cells m) (pos n)))
    by true short = same_truth false (int_le (enough_cells m) (pos n)) (same_test false (int_le (enough_cells m) (pos n)) (λ e t. absurd cc) (λ e t. grind (arith, ints, nat_tests, short, t, le, few)))
    by false whole =
        same_truth (nat_le long n) (int_le (enough_cells m) (pos n))
        (same_test (nat_le long n) (int_le (enough_cells m) (pos n)) (λ e t. grind (arith, ints, nat_tests, whole, e, t, most)) (λ e t. grind (arith, ints, nat_tests, whole, e, t, le, most, few)))

some_test : (cs : Cells) → fold_of Any truths (tells cs) ≡ test_cell 1 cs
some_test cs =
    ap (λ b. Some (truth b)) (some_told cs) ∙ same_truth (nat_lt 0 (length (present cs))) (int_le (enough_cells 1) (pos (length (present cs)))) (one_enough (length (present cs)))

each_test : (m : ℕ) (cs : Cells) → length cs ≤ m → length cs ≤ 33554432 → listed_cell every (Fewer m) (Some (pos 0)) truths (tells cs) ≡ test_cell m cs
each_test m cs most few =
    ap (λ n. cond (nat_lt n m) (Some (pos 0)) (fold_of every truths (tells cs))) (tells_long cs) ∙ ap (λ b. cond (nat_lt (length cs) m) (Some (pos 0)) (Some (truth b))) (each_told cs)
    ∙ all_enough (length (present cs)) (length cs) m (present_few cs) most few

module _ (nodes : List Node) (c : Change) (a : DataArray) (is : IsArrayIn nodes a) (change : IsOne a.axes a.coords c) (few : size (shape_over (axes_by (c ∷ []) a.axes)) ≤ 33554432) where
  abbrev dims : List (List ℕ)
  dims = axis_names a.axes

  abbrev before : List ℕ
  before = shape_over a.axes

  abbrev after : List Axis
  after = axes_by (c ∷ []) a.axes

  abbrev s : List ℕ
  s = shape_over after

  abbrev feeds : List Feed
  feeds = feeds_by (c ∷ []) dims

  abbrev own : Array
  own = array_of (array_in nodes a)

  abbrev found : List ℕ → Cells
  found p = gathered 0 feeds before p (at own)

  abbrev k_at : ℕ
  k_at = place c dims

  abbrev list_at : List ℕ → List ℕ
  list_at p = get_or c.lists (get_or p k_at 0) []

  to : kept feeds before ≡ s
  to = folds.to nodes Count c a is refl change few

  long : length dims ≡ length before
  long = folds.long nodes Count c a is refl change few

  shape_is : (value nodes a.node).shape ≡ before
  shape_is = is.node.has_shape

  -- ---- the truth values, as an array of a plan of their own, which misses none

  abbrev told : Array
  told = unary_of NotNull truths (value nodes a.node)

  abbrev alone : List Node
  alone = Source told ∷ []

  abbrev telling : DataArray
  telling = record { name = a.name; axes = a.axes; kind = truths; masked = false; attrs = a.attrs; coords = a.coords; node = 0 }

  stands : value alone 0 ≡ told
  unfolding node_value
  stands = refl

  telling_in : IsArrayIn alone telling
  unfolding node_value
  telling_in = record {
    node = record { placed = omega arith; has_shape = shape_is; has_kind = refl };
    formed = (change_makes nodes a NotNull truths (tests_present a.kind) is a.attrs is.formed.attrs).made.formed;
  }

  abbrev flags : Array
  flags = unary_of NotNull truths own

  flags_are : array_of (array_in alone telling) ≡ flags
  flags_are = sym (array_value alone telling telling_in) ∙ stands ∙ ap (unary_of NotNull truths) (array_value nodes a is)

  flag_at : (q : List ℕ) → IsPoint before q → at flags q ≡ Some (flag (is_some (at own q)))
  flag_at q here = made_at truths before (λ r. elem NotNull (unary_kind NotNull truths a.kind) (at own r) None) q here

  found_told : (p : List ℕ) → IsPoint (kept feeds before) p → gathered 0 feeds before p (at flags) ≡ tells (found p)
  found_told p here =
      one_list c 0 dims before p (at flags) long change.has is.formed.axes.distinct here
      ∙ told_at (get_or before k_at 0) p k_at (at flags) (at own) each 0 (list_at p) (change.fed (get_or p k_at 0) [] (gapped.listed_below nodes Count c a is refl change few None p here))
      ∙ ap tells (sym (one_list c 0 dims before p (at own) long change.has is.formed.axes.distinct here))
    where
      each : (i : ℕ) → i < get_or before k_at 0 → at flags (slice_set p k_at i) ≡ Some (flag (is_some (at own (slice_set p k_at i))))
      each i below =
          flag_at (slice_set p k_at i)
          (point_put before p k_at (length c.lists) i (folds.inside nodes Count c a is refl change few) (subst (λ t. IsPoint t p) (folds.shaped nodes Count c a is refl change few) here) below)

  -- ---- some cell

  folded_some : folded Any feeds flags ≡ test_over c a 1 own
  folded_some =
      ap (λ xs. record { kind = truths; shape = kept feeds before; cells = xs })
      (tab_same (kept feeds before) (λ p. fold_of Any truths (gathered 0 feeds before p (at flags))) (λ p. test_cell 1 (found p)) (λ p here. ap (fold_of Any truths) (found_told p here) ∙ some_test (found p)))
      ∙ ap (λ t. made truths t (λ p. test_cell 1 (found p))) to

  some_is : chain_value nodes (some_cell (c ∷ []) a) ≡ test_over c a 1 own
  some_is = ap (λ v. folded Any feeds (unary_of NotNull truths v)) (array_value nodes a is) ∙ folded_some

  tells_fit : StepFits (step.Unary NotNull truths) (value nodes a.node)
  tells_fit = step_fits nodes a NotNull truths (tests_present a.kind) is

  some_fits : ChainFits nodes (some_cell (c ∷ []) a)
  some_fits = record { start = is.node.placed; steps = (tells_fit, (subst (StepFits (step.Fold Any feeds)) stands (folds.fits alone Any c telling telling_in refl change few), tt)) }

  some_few : chain_cells nodes (some_cell (c ∷ []) a) ≤ size before + size s
  some_few = let one = ap size shape_is in let two = ap (λ t. size (kept feeds t)) shape_is ∙ ap size to in omega (arith, one, two)

  -- ---- each cell

  module _ (m : ℕ) where
    abbrev rest : List Step
    rest = step.Fold every feeds ∷ short_filling m (c ∷ []) dims (Some (pos 0))

    list_few : has_long m c ≡ false → (p : List ℕ) → IsPoint (kept feeds before) p → length (found p) ≤ m
    list_few none p here =
        let same = gapped.lengths nodes Count c a is refl change few None p here in
        let le = none_long m c.lists (get_or p k_at 0) none (gapped.listed_below nodes Count c a is refl change few None p here) in
        grind (arith, nat_tests, same, le)

    listed_each : has_long m c ≡ false → listed every (Fewer m) (Some (pos 0)) feeds flags ≡ test_over c a m own
    listed_each none =
        ap (λ xs. record { kind = truths; shape = kept feeds before; cells = xs })
        (tab_same (kept feeds before) (λ p. listed_cell every (Fewer m) (Some (pos 0)) truths (gathered 0 feeds before p (at flags))) (λ p. test_cell m (found p))
        (λ p here. ap (listed_cell every (Fewer m) (Some (pos 0)) truths) (found_told p here) ∙ each_test m (found p) (list_few none p here) (cells.found_few nodes c a is change few p (subst (λ t. IsPoint t p) to here))))
        ∙ ap (λ t. made truths t (λ p. test_cell m (found p))) to

    each_is : has_long m c ≡ false → chain_value nodes (each_cell (c ∷ []) m a) ≡ test_over c a m own
    each_is none =
        ap (steps_value rest) (sym stands) ∙ plains.plain_is alone every c telling telling_in refl change few m (Some (pos 0)) (zero_in truths) refl
        ∙ ap (listed every (Fewer m) (Some (pos 0)) feeds) flags_are ∙ listed_each none

    each_fits : ChainFits nodes (each_cell (c ∷ []) m a)
    each_fits = record {
      start = is.node.placed;
      steps = (tells_fit, subst (StepsFit rest) stands (plains.plain_fits alone every c telling telling_in refl change few m (Some (pos 0)) (zero_in truths) refl).steps);
    }

    each_few : chain_cells nodes (each_cell (c ∷ []) m a) ≤ size before + 2 * size s
    each_few =
        let one = ap size shape_is in
        let two = plains.plain_few alone every c telling telling_in refl change few m (Some (pos 0)) (zero_in truths) refl in
        let same = ap (steps_cells rest) stands in
        omega (arith, one, two, same)

    -- ---- which windows have enough

    is_one : (m == 1) ≡ true → m ≡ 1
    is_one e = grind (arith, nat_tests, e)

    pub enough_is : formula_value nodes (enough (c ∷ []) m after a) ≡ test_over c a m own
    enough_is = by (m == 1) refl (has_long m c) refl
      where
        by : (b : Bool) → (m == 1) ≡ b → (d : Bool) → has_long m c ≡ d → formula_value nodes (cond b (One (some_cell (c ∷ []) a)) (cond (d || false) (counted (c ∷ []) m after a) (One (each_cell (c ∷ []) m a)))) ≡ test_over c a m own
        by true e d f = some_is ∙ ap (λ n. test_over c a n own) (sym (is_one e))
        by false e true f = cells.counted_is nodes c a is change few m
        by false e false f = each_is f

    pub enough_fits : FormulaFits nodes (enough (c ∷ []) m after a)
    enough_fits = by (m == 1) (has_long m c)
      where
        by : (b d : Bool) → FormulaFits nodes (cond b (One (some_cell (c ∷ []) a)) (cond (d || false) (counted (c ∷ []) m after a) (One (each_cell (c ∷ []) m a))))
        by true d = some_fits
        by false true = cells.counted_fits nodes c a is change few m
        by false false = each_fits

    pub enough_few : formula_cells nodes (enough (c ∷ []) m after a) ≤ 3 + size before + 18 * size s
    enough_few = by (m == 1) (has_long m c)
      where
        by : (b d : Bool) → formula_cells nodes (cond b (One (some_cell (c ∷ []) a)) (cond (d || false) (counted (c ∷ []) m after a) (One (each_cell (c ∷ []) m a)))) ≤ 3 + size before + 18 * size s
        by true d = let le = some_few in omega (arith, le)
        by false true = let le = cells.counted_few nodes c a is change few m in omega (arith, le)
        by false false = let le = each_few in omega (arith, le)
