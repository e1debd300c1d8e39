-- The cells of windows of an array that misses none: the folds, and a fill in the place of those with too few positions.
use Rattle.std.proofs.Common.{◌≡◌, ◌≤◌, ◌+◌, ◌*◌, ◌++◌, ℕ, ℤ, Bool, true, false, cond, List, [], ◌∷◌, length, Option, refl, ap, ◌∙◌, arith}
use Rattle.std.specs.Prelude.{nat_lt}
use Rattle.std.specs.List.{list_any}
use Rattle.xr_types.specs.Names.{axis_names, shape_over}
use Rattle.xr_types.specs.Points.{size, IsPoint}
use Rattle.xr_types.specs.declared.operation.FoldKind.{FoldKind}
use Rattle.xr_arrays.specs.declared.node.Feed.{Feed}
use Rattle.xr_arrays.specs.declared.node.Node.{Node}
use Rattle.xr_arrays.specs.Arrays.{Array, IsCell}
use Rattle.xr_arrays.specs.Folds.{folded_kind}
use Rattle.xr_arrays.specs.Nodes.{folded, kept, value}
use Rattle.xr_defs.specs.Values.{array_of}
use Rattle.xr_values.specs.declared.data_array.DataArray.{DataArray}
use Rattle.xr_values.specs.Stands.{array_in, IsArrayIn}
use Rattle.xr_formulas.specs.declared.chain.Step.TheVariants as step
use Rattle.xr_formulas.specs.Chains.{chain_cells, chain_value, steps_cells, steps_value, ChainFits, StepsFit}
use Rattle.xr_groups.specs.declared.change.Change.{Change}
use Rattle.xr_groups.specs.declared.change.Least.TheVariants.{Fewer}
use Rattle.xr_groups.specs.Listed.{axes_by, feeds_by, listed, too_few}
use Rattle.xr_groups.specs.Methods.{of_groups}
use Rattle.xr_grouping.specs.Fills.{gaps, is_short}
use Rattle.xr_grouping.specs.Windowed.{plain}
use Rattle.xr_grouping.proofs.Folding as folds
use Rattle.xr_grouping.proofs.Gapped as gapped
use Rattle.xr_grouping.proofs.Listing.{all_there}
use Rattle.xr_grouping.proofs.Named.{IsOne}
use Rattle.xr_grouping.proofs.OneList.{place}
use Rattle.xr_grouping.proofs.Present.{all_present}

module _ (nodes : List Node) (k : FoldKind) (c : Change) (a : DataArray) (is : IsArrayIn nodes a) (method : of_groups k ≡ true) (change : IsOne a.axes a.coords c)
    (few : size (shape_over (axes_by (c ∷ []) a.axes)) ≤ 33554432) (m : ℕ) (fill : Option ℤ) (suits : IsCell (folded_kind k a.kind) fill) (whole : a.masked ≡ false) where
  abbrev dims : List (List ℕ)
  dims = axis_names a.axes

  abbrev before : List ℕ
  before = shape_over a.axes

  abbrev s : List ℕ
  s = shape_over (axes_by (c ∷ []) a.axes)

  abbrev feeds : List Feed
  feeds = feeds_by (c ∷ []) dims

  abbrev own : Array
  own = array_of (array_in nodes a)

  abbrev k_at : ℕ
  k_at = place c dims

  abbrev from : List (Option ℕ)
  from = gaps m 0 c.lists

  abbrev found_at : List ℕ → List (ℕ × Option ℤ)
  found_at p = gapped.found_at nodes k c a is method change few fill p

  abbrev list_at : List ℕ → List ℕ
  list_at p = gapped.list_at nodes k c a is method change few fill p

  -- each cell of a window is present
  same : (p : List ℕ) → IsPoint (kept feeds before) p → too_few (Fewer m) (found_at p) ≡ nat_lt (length (list_at p)) m
  same p here =
      let there = all_there k (Fewer m) fill c dims before a.kind a.masked own.cells is.formed.cells (folds.long nodes k c a is method change few) change.has is.formed.axes.distinct (folds.inside nodes k c a is method change few) change.fed (folds.shaped nodes k c a is method change few) whole p here in
      ap (λ n. nat_lt n m) (all_present (found_at p) there ∙ gapped.lengths nodes k c a is method change few fill p here)

  abbrev first : Array
  first = folded k feeds (value nodes a.node)

  shape_is : first.shape ≡ s
  shape_is = ap (λ (v : Array). v.shape) (folds.same nodes k c a is method change few) ∙ folds.to nodes k c a is method change few

  gapped_is : steps_value (step.Fold k feeds ∷ step.Take k_at from fill false ∷ []) (value nodes a.node) ≡ listed k (Fewer m) fill feeds own
  gapped_is = gapped.gapped_is nodes k c a is method change few fill (Fewer m) m same

  pub plain_is : chain_value nodes (plain k (c ∷ []) m fill a) ≡ listed k (Fewer m) fill feeds own
  plain_is = by (list_any (λ ps. is_short m ps) c.lists) refl
    where
      by : (b : Bool) → list_any (λ ps. is_short m ps) c.lists ≡ b → steps_value (cond b (step.Take k_at from fill false ∷ []) [] ++ []) first ≡ listed k (Fewer m) fill feeds own
      by true e = gapped_is
      by false e = gapped.whole_is nodes k c a is method change few fill (Fewer m) m same e

  pub plain_fits : ChainFits nodes (plain k (c ∷ []) m fill a)
  plain_fits = record { start = is.node.placed; steps = (folds.fits nodes k c a is method change few, by (list_any (λ ps. is_short m ps) c.lists)) }
    where
      by : (b : Bool) → StepsFit (cond b (step.Take k_at from fill false ∷ []) [] ++ []) first
      by true = (gapped.gap_fits nodes k c a is method change few fill (Fewer m) m same suits, tt)
      by false = tt

  pub plain_few : chain_cells nodes (plain k (c ∷ []) m fill a) ≤ 2 * size s
  plain_few = let one = ap size shape_is in let rest = by (list_any (λ ps. is_short m ps) c.lists) in omega (arith, one, rest)
    where
      by : (b : Bool) → steps_cells (cond b (step.Take k_at from fill false ∷ []) [] ++ []) first ≤ size s
      by true = let two = ap (λ (v : Array). size v.shape) gapped_is ∙ ap size (folds.to nodes k c a is method change few) in omega (arith, two)
      by false = omega arith
