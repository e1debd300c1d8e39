-- The cells of windows: the folds of those with enough present cells, and a fill in the place of the others.
use Rattle.std.proofs.Common.{◌≡◌, ◌<◌, ◌≤◌, ◌+◌, ◌*◌, ◌^◌, ℕ, ℤ, pos, Bool, true, false, cond, List, [], ◌∷◌, length, min, Option, Some, None, refl, sym, ap, subst, ◌∙◌, arith}
use Rattle.std.specs.Prelude.{int_le, nat_lt}
use Rattle.std.proofs.lemmas.Int.{ints}
use Rattle.std.proofs.lemmas.Bool.Decides.{nat_tests}
use Rattle.std.proofs.lemmas.List.{length-map}
use Rattle.xr_types.specs.Names.{axis_names, shape_over}
use Rattle.xr_types.specs.Points.{size, IsPoint}
use Rattle.xr_types.specs.declared.axis.Axis.{Axis}
use Rattle.xr_types.specs.declared.kind.DType.{DType}
use Rattle.xr_types.specs.declared.kind.DType.TheVariants.{Bool as truths, Int64}
use Rattle.xr_types.specs.declared.operation.FoldKind.{FoldKind}
use Rattle.xr_types.specs.declared.operation.FoldKind.TheVariants.{Count}
use Rattle.xr_types.specs.declared.operation.OpKind.TheVariants.{GreaterEqual}
use Rattle.xr_arrays.specs.declared.node.Feed.{Feed}
use Rattle.xr_arrays.specs.declared.node.Node.{Node}
use Rattle.xr_arrays.specs.Arrays.{Array, at, made, IsCell}
use Rattle.xr_arrays.specs.Elements.{choose, choose_of, elem, flag}
use Rattle.xr_arrays.specs.Folds.{fold_of, folded_kind, present}
use Rattle.xr_arrays.specs.Nodes.{folded, gathered, kept, value}
use Rattle.xr_arrays.proofs.FeedRanges.{gathered_few}
use Rattle.plan_core.proofs.Tabs.{tab_same}
use Rattle.xr_defs.specs.Values.{array_of}
use Rattle.xr_values.specs.declared.data_array.DataArray.{DataArray}
use Rattle.xr_values.specs.Stands.{array_in, IsArrayIn}
use Rattle.xr_values.proofs.Grown.{array_value}
use Rattle.xr_formulas.specs.Chains.{chain_cells, chain_value, ChainFits}
use Rattle.xr_formulas.specs.Mades.{formula_cells, formula_value, paired, Choices, FormulaFits, Match}
use Rattle.xr_formulas.proofs.Points.{made_at}
use Rattle.xr_groups.specs.declared.change.Change.{Change}
use Rattle.xr_groups.specs.declared.change.Least.TheVariants.{Fewer}
use Rattle.xr_groups.specs.Listed.{axes_by, feeds_by, listed, listed_cell}
use Rattle.xr_groups.specs.Methods.{of_groups}
use Rattle.xr_grouping.specs.Windowed.{chosen, counted, enough_cells, folds_of, spread}
use Rattle.xr_grouping.proofs.Folding as folds
use Rattle.xr_grouping.proofs.Named.{IsOne}
use Rattle.xr_grouping.proofs.OneList.{fed_one, feeds_length}
use Rattle.xr_grouping.proofs.Spreading.{spread_cells, spread_fits, spread_is}

pub present_few : (cs : List (ℕ × Option ℤ)) → length (present cs) ≤ length cs
present_few [] = omega arith
present_few ((p, None) ∷ cs) = let rest = present_few cs in omega (arith, rest)
present_few ((p, Some x) ∷ cs) = let rest = present_few cs in omega (arith, rest)

-- the fill where there are fewer
chosen_cell : (n m : ℕ) (x y : Option ℤ) → n ≤ 33554432 → choose (Some (flag (int_le (enough_cells m) (pos n)))) x y ≡ cond (nat_lt n m) y x
chosen_cell n m x y few = by (int_le (enough_cells m) (pos n)) refl (nat_lt n m) refl
  where
    many : int_le (enough_cells m) (pos n) ≡ true → nat_lt n m ≡ true → ⊥
    many e t = grind (arith, ints, nat_tests, e, t, few)

    too_few : int_le (enough_cells m) (pos n) ≡ false → nat_lt n m ≡ false → ⊥
    too_few e t = grind (arith, ints, nat_tests, e, t, few)

    by : (b : Bool) → int_le (enough_cells m) (pos n) ≡ b → (t : Bool) → nat_lt n m ≡ t → choose (Some (flag b)) x y ≡ cond t y x
    by true e true t = absurd (many e t)
    by true e false t = refl
    by false e true t = refl
    by false e false t = absurd (too_few e t)

enough_in : (m : ℕ) → IsCell Int64 (Some (enough_cells m))
enough_in m = let le : min m (2 ^ 40) ≤ 2 ^ 40 = grind arith in (omega (arith, ints, le), omega (arith, ints, le))

-- which points have so many present cells
abbrev pub test_over : Change → DataArray → ℕ → Array → Array
test_over c a m u =
    made truths (shape_over (axes_by (c ∷ []) a.axes)) (λ p. Some (flag (int_le (enough_cells m) (pos (length (present (gathered 0 (feeds_by (c ∷ []) (axis_names a.axes)) (shape_over a.axes) p (at u))))))))

module _ (nodes : List Node) (c : Change) (a : DataArray) (is : IsArrayIn nodes a) (change : IsOne a.axes a.coords c) (few : size (shape_over (axes_by (c ∷ []) a.axes)) ≤ 33554432) where
  abbrev dims : List (List ℕ)
  dims = axis_names a.axes

  abbrev before : List ℕ
  before = shape_over a.axes

  abbrev after : List Axis
  after = axes_by (c ∷ []) a.axes

  abbrev s : List ℕ
  s = shape_over after

  abbrev feeds : List Feed
  feeds = feeds_by (c ∷ []) dims

  abbrev own : Array
  own = array_of (array_in nodes a)

  abbrev found : List ℕ → List (ℕ × Option ℤ)
  found p = gathered 0 feeds before p (at own)

  abbrev count : List ℕ → ℕ
  count p = length (present (found p))

  to : kept feeds before ≡ s
  to = folds.to nodes Count c a is refl change few

  long : length dims ≡ length before
  long = folds.long nodes Count c a is refl change few

  low : length after ≤ 16
  low =
      let rank = folds.low nodes Count c a is refl change few in
      let same = ap length to in
      let there = length-map after (λ (x : Axis). x.size) in
      omega (arith, rank, same, there)

  at_point : (p : List ℕ) → IsPoint s p → IsPoint (kept feeds before) p
  at_point p here = subst (λ t. IsPoint t p) (sym to) here

  pub found_few : (p : List ℕ) → IsPoint s p → length (found p) ≤ 33554432
  found_few p here =
      let all = gathered_few feeds before p (at own) 0 (feeds_length c dims ∙ long) (fed_one c dims before long change.has (folds.distinct nodes Count c a is refl change few) change.fed) (at_point p here) in
      let most = is.formed.cells.few in
      omega (arith, all, most)

  count_few : (p : List ℕ) → IsPoint s p → count p ≤ 33554432
  count_few p here = let some = present_few (found p) in let all = found_few p here in omega (arith, some, all)

  -- ---- folds

  abbrev fold_at : FoldKind → List ℕ → Option ℤ
  fold_at k p = fold_of k a.kind (found p)

  folds_are : (k : FoldKind) → chain_value nodes (folds_of k (c ∷ []) a) ≡ made (folded_kind k a.kind) s (fold_at k)
  folds_are k = ap (folded k feeds) (array_value nodes a is) ∙ ap (λ t. made (folded_kind k a.kind) t (fold_at k)) to

  pub folds_fit : (k : FoldKind) → of_groups k ≡ true → ChainFits nodes (folds_of k (c ∷ []) a)
  folds_fit k method = record { start = is.node.placed; steps = (folds.fits nodes k c a is method change few, tt) }

  pub folds_few : (k : FoldKind) → chain_cells nodes (folds_of k (c ∷ []) a) ≤ size s
  folds_few k = let one = ap (λ (v : Array). size v.shape) (folds_are k) in omega (arith, one)

  -- ---- which windows have enough, by their numbers of present cells

  abbrev pub test : ℕ → Array
  test m = test_over c a m own

  abbrev counts : Array
  counts = made Int64 s (λ p. Some (pos (count p)))

  abbrev all_enough : ℕ → Array
  all_enough m = made Int64 s (λ p. Some (enough_cells m))

  compared : (m : ℕ) → paired GreaterEqual counts (all_enough m) ≡ test m
  compared m =
      ap (λ cells. record { kind = truths; shape = s; cells = cells })
      (tab_same s (λ p. elem GreaterEqual Int64 (at counts p) (at (all_enough m) p)) (λ p. Some (flag (int_le (enough_cells m) (pos (count p)))))
      (λ p here. ap (λ x. elem GreaterEqual Int64 x (at (all_enough m) p)) (made_at Int64 s (λ q. Some (pos (count q))) p here) ∙ ap (elem GreaterEqual Int64 (Some (pos (count p)))) (made_at Int64 s (λ q. Some (enough_cells m)) p here)))

  pub counted_is : (m : ℕ) → formula_value nodes (counted (c ∷ []) m after a) ≡ test m
  counted_is m =
      ap (λ v. paired GreaterEqual v (chain_value nodes (spread after Int64 (Some (enough_cells m))))) (folds_are Count)
      ∙ ap (paired GreaterEqual counts) (spread_is Int64 (Some (enough_cells m)) nodes after) ∙ compared m

  pub counted_fits : (m : ℕ) → FormulaFits nodes (counted (c ∷ []) m after a)
  counted_fits m =
      let one = folds_are Count in
      let other = spread_is Int64 (Some (enough_cells m)) nodes after in (
        folds_fit Count refl,
        spread_fits Int64 (Some (enough_cells m)) nodes after (enough_in m) few low,
        subst (Match GreaterEqual (chain_value nodes (folds_of Count (c ∷ []) a))) (sym other) (subst (λ v. Match GreaterEqual v (all_enough m)) (sym one) (record {
          op_of = refl;
          shape = refl;
          kind = refl;
          suits = λ e. absurd cc;
          small = omega (arith, few);
          low_rank = let there = length-map after (λ (x : Axis). x.size) in omega (arith, low, there);
        })),
      )

  pub counted_few : (m : ℕ) → formula_cells nodes (counted (c ∷ []) m after a) ≤ 3 + 18 * size s
  counted_few m =
      let one = ap (λ (v : Array). size v.shape) (folds_are Count) in
      let more = spread_cells Int64 (Some (enough_cells m)) nodes after low in
      omega (arith, one, more)

  -- ---- folds or the fill

  module _ (k : FoldKind) (method : of_groups k ≡ true) (m : ℕ) (fill : Option ℤ) (suits : IsCell (folded_kind k a.kind) fill) (t : ℕ) (placed : t < length nodes) (tests : value nodes t ≡ test m) where
    abbrev kind : DType
    kind = folded_kind k a.kind

    abbrev cell : List ℕ → Option ℤ
    cell p = listed_cell k (Fewer m) fill a.kind (found p)

    abbrev folded_all : Array
    folded_all = made kind s (fold_at k)

    abbrev fills : Array
    fills = made kind s (λ p. fill)

    chooses : choose_of (test m) folded_all fills ≡ made kind s cell
    chooses =
        ap (λ cells. record { kind = kind; shape = s; cells = cells })
        (tab_same s (λ p. choose (at (test m) p) (at folded_all p) (at fills p)) cell
        (λ p here.
        ap (λ x. choose x (at folded_all p) (at fills p)) (made_at truths s (λ q. Some (flag (int_le (enough_cells m) (pos (count q))))) p here)
        ∙ ap (λ x. choose (Some (flag (int_le (enough_cells m) (pos (count p))))) x (at fills p)) (made_at kind s (fold_at k) p here)
        ∙ ap (choose (Some (flag (int_le (enough_cells m) (pos (count p))))) (fold_at k p)) (made_at kind s (λ q. fill) p here)
        ∙ chosen_cell (count p) m (fold_at k p) fill (count_few p here)))

    pub chosen_is : formula_value nodes (chosen k (c ∷ []) fill t after a) ≡ listed k (Fewer m) fill feeds own
    chosen_is =
        ap (λ v. choose_of v (chain_value nodes (folds_of k (c ∷ []) a)) (chain_value nodes (spread after kind fill))) tests
        ∙ ap (λ v. choose_of (test m) v (chain_value nodes (spread after kind fill))) (folds_are k) ∙ ap (choose_of (test m) folded_all) (spread_is kind fill nodes after)
        ∙ chooses ∙ ap (λ u. made kind u cell) (sym to)

    pub chosen_fits : FormulaFits nodes (chosen k (c ∷ []) fill t after a)
    chosen_fits = (
      record { start = placed; steps = tt },
      folds_fit k method,
      spread_fits kind fill nodes after suits few low,
      subst (Choices (value nodes t) (chain_value nodes (folds_of k (c ∷ []) a))) (sym (spread_is kind fill nodes after)) (subst (λ v. Choices (value nodes t) v fills) (sym (folds_are k)) (subst (λ v. Choices v folded_all fills) (sym tests) (record {
        truth = refl;
        tests = refl;
        shape = refl;
        kind = refl;
        small = omega (arith, few);
        low_rank = let there = length-map after (λ (x : Axis). x.size) in omega (arith, low, there);
      }))),
    )

    pub chosen_few : formula_cells nodes (chosen k (c ∷ []) fill t after a) ≤ 3 + 18 * size s
    chosen_few =
        let one = ap (λ (v : Array). size v.shape) (folds_are k) in
        let more = spread_cells kind fill nodes after low in
        omega (arith, one, more)
