-- What is made of an array in bins, with a fill where one is empty, is its reduction by lists.
use Rattle.std.proofs.Common.{◌≡◌, ◌<◌, ◌≤◌, ◌==◌, ◌||◌, ℕ, ℤ, zero, suc, Bool, true, false, cond, List, [], ◌∷◌, length, get_or, Option, Some, None, is_some, is_none, refl, sym, ap, subst, ◌∙◌, arith}
use Rattle.std.specs.Prelude.{nat_lt, slice_set}
use Rattle.std.proofs.lemmas.Bool.{or_parts}
use Rattle.std.proofs.lemmas.Bool.Decides.{nat_tests}
use Rattle.xr_types.specs.Names.{axis_names, shape_over}
use Rattle.xr_types.specs.Points.{size, IsPoint}
use Rattle.xr_types.specs.declared.axis.Axis.{Axis}
use Rattle.xr_types.specs.declared.operation.FoldKind.{FoldKind}
use Rattle.xr_arrays.specs.declared.node.Feed.{Feed}
use Rattle.xr_arrays.specs.declared.node.Node.{Node}
use Rattle.xr_arrays.specs.Arrays.{Array, at, made, IsCell}
use Rattle.xr_arrays.specs.Folds.{fold_of, folded_kind}
use Rattle.xr_arrays.specs.Nodes.{along, folded, from_source, kept, most_axes, most_node_cells, taken_from, value}
use Rattle.xr_defs.specs.Values as of
use Rattle.xr_defs.specs.Values.{array_of, without_fills}
use Rattle.xr_defs.specs.WellFormed.{AreCells, IsDataArray}
use Rattle.xr_defs.proofs.Spans.{points_above}
use Rattle.xr_values.specs.declared.data_array.DataArray.{DataArray}
use Rattle.xr_values.specs.Stands.{array_in, IsArrayIn}
use Rattle.xr_formulas.specs.declared.chain.Step.TheVariants as step
use Rattle.xr_formulas.specs.declared.made.Made.{Made}
use Rattle.xr_formulas.specs.Chains.{steps_value, StepFits}
use Rattle.xr_formulas.specs.Mades.{made_in, IsMade}
use Rattle.xr_formulas.proofs.Points.{made_at}
use Rattle.xr_operations.specs.Reductions.{masked_after}
use Rattle.plan_core.proofs.Tabs.{tab_same}
use Rattle.xr_groups.specs.declared.change.Change.{Change}
use Rattle.xr_groups.specs.declared.change.Least.TheVariants.{Empty}
use Rattle.xr_groups.specs.Listed.{axes_by, coords_by, feeds_by, listed, listed_cell}
use Rattle.xr_groups.specs.Methods.{array_listed, of_groups}
use Rattle.xr_reducing.proofs.Reduced.{attrs_left}
use Rattle.xr_grouping.specs.Fills.{gaps}
use Rattle.xr_grouping.specs.Mades.{lists_chain, made_by}
use Rattle.xr_grouping.proofs.Folding as folds
use Rattle.xr_grouping.proofs.Gapped as gapped
use Rattle.xr_grouping.proofs.Listing.{cells_listed, found, given_there}
use Rattle.xr_grouping.proofs.Named.{IsOne}
use Rattle.xr_grouping.proofs.OneList.{place}

-- fewer than one
below_one : (n : ℕ) → (n == 0) ≡ nat_lt n 1
below_one n = by (n == 0) refl (nat_lt n 1) refl
  where
    by : (b : Bool) → (n == 0) ≡ b → (d : Bool) → nat_lt n 1 ≡ d → b ≡ d
    by true e true t = refl
    by true e false t = absurd (grind (arith, nat_tests, e, t))
    by false e true t = absurd (grind (arith, nat_tests, e, t))
    by false e false t = refl

some_or_none : {A : Type 0} (o : Option A) → is_none o ≡ false → is_some o ≡ true
some_or_none None e = absurd cc
some_or_none (Some x) e = refl

module _ (nodes : List Node) (k : FoldKind) (c : Change) (a : DataArray) (is : IsArrayIn nodes a) (method : of_groups k ≡ true) (change : IsOne a.axes a.coords c)
    (few : size (shape_over (axes_by (c ∷ []) a.axes)) ≤ 33554432) (fill : Option ℤ) (suits : IsCell (folded_kind k a.kind) fill) where
  abbrev dims : List (List ℕ)
  dims = axis_names a.axes

  abbrev before : List ℕ
  before = shape_over a.axes

  abbrev after : List Axis
  after = axes_by (c ∷ []) a.axes

  abbrev feeds : List Feed
  feeds = feeds_by (c ∷ []) dims

  abbrev own : Array
  own = array_of (array_in nodes a)

  abbrev k_at : ℕ
  k_at = place c dims

  abbrev masked : Bool
  masked = masked_after k a.masked || is_none fill

  abbrev from : List (Option ℕ)
  from = gaps 1 0 c.lists

  long : length dims ≡ length before
  long = folds.long nodes k c a is method change few

  inside : k_at < length before
  inside = folds.inside nodes k c a is method change few

  shaped : kept feeds before ≡ slice_set before k_at (length c.lists)
  shaped = folds.shaped nodes k c a is method change few

  to : kept feeds before ≡ shape_over after
  to = folds.to nodes k c a is method change few

  abbrev found_at : List ℕ → List (ℕ × Option ℤ)
  found_at p = found k Empty fill c dims before a.kind a.masked own.cells is.formed.cells long change.has is.formed.axes.distinct inside change.fed shaped p

  abbrev list_at : List ℕ → List ℕ
  list_at p = get_or c.lists (get_or p k_at 0) []

  abbrev fold_at : List ℕ → Option ℤ
  fold_at p = fold_of k a.kind (found_at p)

  abbrev cell : List ℕ → Option ℤ
  cell p = listed_cell k Empty fill a.kind (found_at p)

  lengths : (p : List ℕ) → IsPoint (kept feeds before) p → length (found_at p) ≡ length (list_at p)
  lengths p here = gapped.lengths nodes k c a is method change few fill p here

  -- ---- the cells

  empty : (p : List ℕ) → IsPoint (kept feeds before) p → (length (found_at p) == 0) ≡ nat_lt (length (list_at p)) 1
  empty p here = ap (λ n. n == 0) (lengths p here) ∙ below_one (length (list_at p))

  value_is : steps_value (step.Fold k feeds ∷ step.Take k_at from fill false ∷ []) (value nodes a.node) ≡ listed k Empty fill feeds own
  value_is = gapped.gapped_is nodes k c a is method change few fill Empty 1 empty

  seen : masked ≡ false → (p : List ℕ) → IsPoint (kept feeds before) p → is_some (cell p) ≡ true
  seen plain p here = by (length (found_at p) == 0) refl
    where
      parts : (masked_after k a.masked ≡ false) × (is_none fill ≡ false)
      parts = or_parts (masked_after k a.masked) (is_none fill) plain

      some_of : (n : ℕ) → (n == 0) ≡ false → 0 < n
      some_of zero e = absurd cc
      some_of (suc n) e = omega arith

      by : (b : Bool) → (length (found_at p) == 0) ≡ b → is_some (cond b fill (fold_at p)) ≡ true
      by true e = some_or_none fill parts.1
      by false e =
          given_there k Empty fill c dims before a.kind a.masked own.cells is.formed.cells long change.has is.formed.axes.distinct inside change.fed shaped method parts.0 p here
          (some_of (length (list_at p)) (ap (λ n. n == 0) (sym (lengths p here)) ∙ e))

  cells : AreCells (shape_over after) (folded_kind k a.kind) masked (listed k Empty fill feeds own).cells
  cells =
      subst (λ s. AreCells s (folded_kind k a.kind) masked (listed k Empty fill feeds own).cells) to
      (cells_listed k Empty fill c dims before a.kind a.masked own.cells is.formed.cells long change.has is.formed.axes.distinct inside change.fed shaped masked suits (folds.small nodes k c a is method change few) (folds.low nodes k c a is method change few) seen)

  abbrev means : of.DataArray
  means = array_listed k Empty false (c ∷ []) (Some fill) (array_in nodes a)

  formed : IsDataArray means
  formed =
      let frame = folds.frame nodes k c a is method change few in
      record { name = is.formed.name; axes = frame.dims; coords = frame.over; distinct = frame.distinct; attrs = attrs_left a.attrs is.formed.attrs; cells = cells }

  abbrev filled : Made
  filled = made_by k masked (c ∷ []) (lists_chain k (c ∷ []) (Some fill) a) a

  pub filled_listed : made_in nodes filled ≡ means
  filled_listed = ap (λ (v : Array). of_cells v.cells) value_is
    where
      of_cells : List (Option ℤ) → of.DataArray
      of_cells xs = record { name = a.name; axes = after; kind = folded_kind k a.kind; masked = masked; attrs = without_fills a.attrs; coords = coords_by false (c ∷ []) a.coords; cells = xs }

  -- ---- a plan takes it

  pub filled_made : IsMade nodes filled
  filled_made =
      let frame = folds.frame nodes k c a is method change few in
      let first : (folded k feeds (value nodes a.node)).shape ≡ shape_over after = ap (λ (v : Array). v.shape) (folds.same nodes k c a is method change few) ∙ to in
      let last : (steps_value (step.Fold k feeds ∷ step.Take k_at from fill false ∷ []) (value nodes a.node)).shape ≡ shape_over after = ap (λ (v : Array). v.shape) value_is ∙ to in
      let one = ap size first in
      let two = ap size last in
      let most = points_above after after frame.dims.distinct (λ n e. e) (λ n. omega arith) in
      record {
        fits = record { start = is.node.placed; steps = (folds.fits nodes k c a is method change few, (gapped.gap_fits nodes k c a is method change few fill Empty 1 empty suits, tt)) };
        shape = last;
        kind = ap (λ (v : Array). v.kind) value_is;
        formed = subst IsDataArray (sym filled_listed) formed;
        room = omega (arith, one, two, most);
      }
