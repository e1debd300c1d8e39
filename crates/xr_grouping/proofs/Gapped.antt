-- Folds of lists with a fill in the place of those that have too few positions.
use Rattle.std.proofs.Common.{◌≡◌, ◌<◌, ◌≤◌, ℕ, ℤ, Bool, true, false, cond, List, [], ◌∷◌, length, get_or, Option, Some, None, refl, sym, ap, subst, ◌∙◌, arith, zero, suc}
use Rattle.std.specs.Prelude.{nat_lt, slice_set}
use Rattle.std.specs.List.{list_any}
use Rattle.xr_types.specs.Names.{axis_names, shape_over}
use Rattle.xr_types.specs.Points.{size, IsPoint}
use Rattle.xr_types.specs.declared.axis.Axis.{Axis}
use Rattle.xr_types.specs.declared.operation.FoldKind.{FoldKind}
use Rattle.xr_arrays.specs.declared.node.Feed.{Feed}
use Rattle.xr_arrays.specs.declared.node.Node.{Node}
use Rattle.xr_arrays.specs.Arrays.{Array, at, made, IsCell}
use Rattle.xr_arrays.specs.Folds.{fold_of, folded_kind}
use Rattle.xr_arrays.specs.Nodes.{along, folded, from_source, gathered, kept, most_axes, most_node_cells, taken_from, value}
use Rattle.xr_defs.specs.Values.{array_of}
use Rattle.xr_values.specs.declared.data_array.DataArray.{DataArray}
use Rattle.xr_values.specs.Stands.{array_in, IsArrayIn}
use Rattle.xr_formulas.specs.declared.chain.Step.TheVariants as step
use Rattle.xr_formulas.specs.Chains.{steps_value, StepFits}
use Rattle.xr_formulas.proofs.Points.{made_at}
use Rattle.plan_core.proofs.Tabs.{tab_same}
use Rattle.xr_groups.specs.declared.change.Change.{Change}
use Rattle.xr_groups.specs.declared.change.Least.{Least}
use Rattle.xr_groups.specs.declared.change.Least.TheVariants.{Never}
use Rattle.xr_groups.specs.Listed.{axes_by, feeds_by, listed, listed_cell, too_few}
use Rattle.xr_groups.specs.Methods.{of_groups}
use Rattle.xr_grouping.specs.Fills.{gaps, is_short}
use Rattle.xr_grouping.proofs.Folding as folds
use Rattle.xr_grouping.proofs.Gaps.{none_short, gap_at, gaps_below, gaps_length}
use Rattle.xr_grouping.proofs.Listing as lists
use Rattle.xr_grouping.proofs.Named.{IsOne}
use Rattle.xr_grouping.proofs.OneList.{place}

-- ---- a size in a shape's place

set_same : (s : List ℕ) (k : ℕ) → slice_set s k (get_or s k 0) ≡ s
set_same [] k = refl
set_same (n ∷ ns) zero = refl
set_same (n ∷ ns) (suc k) = ap (λ t. n ∷ t) (set_same ns k)

set_twice : (s : List ℕ) (k n : ℕ) → slice_set (slice_set s k n) k n ≡ slice_set s k n
set_twice [] k n = refl
set_twice (m ∷ ns) zero n = refl
set_twice (m ∷ ns) (suc k) n = ap (λ t. m ∷ t) (set_twice ns k n)

set_length : (s : List ℕ) (k n : ℕ) → length (slice_set s k n) ≡ length s
set_length [] k n = refl
set_length (m ∷ ns) zero n = refl
set_length (m ∷ ns) (suc k) n = ap suc (set_length ns k n)

set_there : (s : List ℕ) (k n : ℕ) → k < length s → get_or (slice_set s k n) k 0 ≡ n
set_there [] k n lt = absurd (omega (arith, lt))
set_there (m ∷ ns) zero n lt = refl
set_there (m ∷ ns) (suc k) n lt = set_there ns k n (omega (arith, lt))

module _ (nodes : List Node) (k : FoldKind) (c : Change) (a : DataArray) (is : IsArrayIn nodes a) (method : of_groups k ≡ true) (change : IsOne a.axes a.coords c)
    (few : size (shape_over (axes_by (c ∷ []) a.axes)) ≤ 33554432) (fill : Option ℤ) where
  abbrev dims : List (List ℕ)
  dims = axis_names a.axes

  abbrev before : List ℕ
  before = shape_over a.axes

  abbrev feeds : List Feed
  feeds = feeds_by (c ∷ []) dims

  abbrev own : Array
  own = array_of (array_in nodes a)

  abbrev k_at : ℕ
  k_at = place c dims

  inside : k_at < length before
  inside = folds.inside nodes k c a is method change few

  shaped : kept feeds before ≡ slice_set before k_at (length c.lists)
  shaped = folds.shaped nodes k c a is method change few

  abbrev pub found_at : List ℕ → List (ℕ × Option ℤ)
  found_at p = gathered 0 feeds before p (at own)

  abbrev pub list_at : List ℕ → List ℕ
  list_at p = get_or c.lists (get_or p k_at 0) []

  abbrev fold_at : List ℕ → Option ℤ
  fold_at p = fold_of k a.kind (found_at p)

  pub listed_below : (p : List ℕ) → IsPoint (kept feeds before) p → get_or p k_at 0 < length c.lists
  listed_below p here = lists.listed_place k Never fill c dims before a.kind a.masked own.cells is.formed.cells (folds.long nodes k c a is method change few) change.has is.formed.axes.distinct inside change.fed shaped p here

  pub lengths : (p : List ℕ) → IsPoint (kept feeds before) p → length (found_at p) ≡ length (list_at p)
  lengths p here = lists.found_length k Never fill c dims before a.kind a.masked own.cells is.formed.cells (folds.long nodes k c a is method change few) change.has is.formed.axes.distinct inside change.fed shaped p here

  -- those with too few cells are those with fewer than so many positions
  module _ (least : Least) (m : ℕ) (same : (p : List ℕ) → IsPoint (kept feeds before) p → too_few least (found_at p) ≡ nat_lt (length (list_at p)) m) where
    abbrev from : List (Option ℕ)
    from = gaps m 0 c.lists

    abbrev cell : List ℕ → Option ℤ
    cell p = listed_cell k least fill a.kind (found_at p)

    abbrev folded_own : Array
    folded_own = folded k feeds own

    -- ---- where there is a gap

    same_cell : (p : List ℕ) → IsPoint (kept feeds before) p → from_source folded_own fill (λ i. along k_at i p) (get_or from (get_or p k_at 0) None) ≡ cell p
    same_cell p here =
        ap (from_source folded_own fill (λ i. along k_at i p)) (gap_at m c.lists (get_or p k_at 0) (listed_below p here)) ∙ by (nat_lt (length (list_at p)) m) ∙ ap (λ b. cond b fill (fold_at p)) (sym (same p here))
      where
        by : (b : Bool) → from_source folded_own fill (λ i. along k_at i p) (cond b None (Some (get_or p k_at 0))) ≡ cond b fill (fold_at p)
        by true = refl
        by false = ap (at folded_own) (set_same p k_at) ∙ made_at (folded_kind k a.kind) (kept feeds before) fold_at p here

    same_shape : slice_set (kept feeds before) k_at (length from) ≡ kept feeds before
    same_shape =
        ap (slice_set (kept feeds before) k_at) (gaps_length m 0 c.lists) ∙ ap (λ s. slice_set s k_at (length c.lists)) shaped
        ∙ set_twice before k_at (length c.lists) ∙ sym shaped

    abbrev taken_cell : List ℕ → Option ℤ
    taken_cell p = from_source folded_own fill (λ i. along k_at i p) (get_or from (get_or p k_at 0) None)

    taken_is : taken_from folded_own k_at from fill ≡ listed k least fill feeds own
    taken_is =
        ap (λ s. made (folded_kind k a.kind) s taken_cell) same_shape
        ∙ ap (λ cells. record { kind = folded_kind k a.kind; shape = kept feeds before; cells = cells }) (tab_same (kept feeds before) taken_cell cell same_cell)

    pub gapped_is : steps_value (step.Fold k feeds ∷ step.Take k_at from fill false ∷ []) (value nodes a.node) ≡ listed k least fill feeds own
    gapped_is = ap (λ v. taken_from v k_at from fill) (folds.same nodes k c a is method change few) ∙ taken_is

    take_fits : IsCell (folded_kind k a.kind) fill → StepFits (step.Take k_at from fill false) folded_own
    take_fits suits = record {
      fits = (
        omega arith,
        (let here = inside in let same = ap length shaped ∙ set_length before k_at (length c.lists) in omega (arith, here, same)),
        gaps_below m c.lists (get_or (kept feeds before) k_at 0) (sym (ap (λ s. get_or s k_at 0) shaped ∙ set_there before k_at (length c.lists) inside)),
        suits,
        λ e. absurd cc,
      );
      small = subst (λ s. size s ≤ most_node_cells) (sym same_shape) (let most = folds.small nodes k c a is method change few in omega (arith, most));
      low_rank = subst (λ (s : List ℕ). length s ≤ most_axes) (sym same_shape) (folds.low nodes k c a is method change few);
    }

    pub gap_fits : IsCell (folded_kind k a.kind) fill → StepFits (step.Take k_at from fill false) (folded k feeds (value nodes a.node))
    gap_fits suits = subst (StepFits (step.Take k_at from fill false)) (sym (folds.same nodes k c a is method change few)) (take_fits suits)

    -- ---- where there is none

    pub whole_is : list_any (λ ps. is_short m ps) c.lists ≡ false → folded k feeds (value nodes a.node) ≡ listed k least fill feeds own
    whole_is none =
        folds.same nodes k c a is method change few
        ∙ ap (λ cells. record { kind = folded_kind k a.kind; shape = kept feeds before; cells = cells })
        (tab_same (kept feeds before) fold_at cell (λ p here. ap (λ b. cond b fill (fold_at p)) (sym (same p here ∙ none_short m c.lists (get_or p k_at 0) none (listed_below p here)))))
