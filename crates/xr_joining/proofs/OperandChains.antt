-- The chain of an operand has its cells over the joined axes, spread over all of them.
use Rattle.std.proofs.Common.{◌≡◌, ◌≤◌, ◌+◌, ◌*◌, ℕ, ℤ, true, false, not, List, [], ◌∷◌, ◌++◌, length, map, filter, Option, Some, None, is_some, refl, sym, ap, subst, ◌∙◌, arith}
use Rattle.std.specs.List.{AllByRecursion}
use Rattle.std.proofs.lemmas.List.{length-map, map-append}
use Rattle.std.proofs.lemmas.Nat.{mul-le}
use Rattle.xr_types.specs.Names.{among, are_distinct, axis_names, shape_over}
use Rattle.xr_types.specs.Points.{IsPoint, size}
use Rattle.xr_types.specs.declared.axis.Axis.{Axis}
use Rattle.xr_types.specs.declared.kind.DType.{DType}
use Rattle.xr_types.specs.declared.operation.OpKind.TheVariants as ops
use Rattle.xr_arrays.specs.declared.node.Node.{Node}
use Rattle.xr_arrays.specs.Arrays.{Array, at, IsCell}
use Rattle.xr_arrays.specs.Elements.{elem}
use Rattle.plan_core.proofs.ElementRanges.{cast_in}
use Rattle.xr_defs.specs.Values as of
use Rattle.xr_defs.specs.Values.{array_of}
use Rattle.xr_defs.specs.WellFormed.{AreCells, AreDimensions, IsDataArray}
use Rattle.xr_operations.specs.Alignment.{fitted, joined_in}
use Rattle.xr_operations.specs.Arithmetic.{cell_along, point_along}
use Rattle.xr_values.specs.declared.data_array.DataArray.{DataArray}
use Rattle.xr_values.specs.Stands.{array_in, IsArrayIn}
use Rattle.xr_values.proofs.Grown.{array_value}
use Rattle.xr_parts.specs.Frames.{IsThere}
use Rattle.xr_formulas.specs.declared.chain.Step.{Step}
use Rattle.xr_formulas.specs.declared.chain.Step.TheVariants.{Reorder, Unary}
use Rattle.xr_formulas.specs.Chains.{chain_cells, chain_value, steps_cells, steps_value, ChainFits, StepsFit}
use Rattle.xr_joining.specs.Fitted.{takes, Arrives}
use Rattle.xr_joining.specs.Operands.{cast, over, over_steps}
use Rattle.xr_joining.specs.Spreads.{order_in, spread, spreading, widens, AreSizedIn}
use Rattle.xr_joining.proofs.Arriving.{each_there_after, fitted_is, same_masked, same_names, same_rank, still_formed}
use Rattle.xr_joining.proofs.Cells.{cell_in, cell_seen, cells_made}
use Rattle.xr_joining.proofs.Spreads.{inside, spread_is, steps_both}
use Rattle.xr_joining.proofs.Stepwise.{takes_fit, takes_value}
use Rattle.xr_joining.proofs.Within.{cells_both, fit_both, spreading_fits, within}

-- ---- the steps know the names alone

module _ (axes : List Axis) where
  abbrev others : List (List ℕ) → List Axis
  others ns = filter (λ (x : Axis). not (among ns x.name)) axes

  abbrev by_names : List (List ℕ) → List Step
  by_names ns = widens (others ns) ++ Reorder (order_in (axis_names (others ns) ++ ns) axes) ∷ []

  by_its_names : (xs : List Axis) → spreading axes xs ≡ by_names (axis_names xs)
  by_its_names xs = ap (λ ns. widens (others (axis_names xs)) ++ Reorder (order_in ns axes) ∷ []) (map-append (λ (x : Axis). x.name) (others (axis_names xs)) xs)

  pub names_alone : (xs ys : List Axis) → axis_names xs ≡ axis_names ys → spreading axes xs ≡ spreading axes ys
  names_alone xs ys e = by_its_names xs ∙ ap by_names e ∙ sym (by_its_names ys)

sized_in : (axes xs : List Axis) → AllByRecursion (IsThere axes) xs → AreSizedIn axes xs
sized_in axes [] all = tt
sized_in axes (x ∷ xs) all = ((all.0.0, ap (λ (y : Axis). y.size) all.0.1), sized_in axes xs all.1)

-- ---- one operand

module _ (nodes : List Node) (t : DType) (axes : List Axis) (dims : AreDimensions axes) (a : DataArray) (is : IsArrayIn nodes a) (all : AllByRecursion (Arrives axes) a.axes) where
  abbrev pub own : of.DataArray
  own = array_in nodes a

  abbrev cells : Array
  cells = array_of own

  abbrev pub come : of.DataArray
  come = fitted axes None own

  abbrev steps : List Step
  steps = takes axes 0 a.axes

  come_sized : AreSizedIn axes come.axes
  unfolding fitted
  come_sized = sized_in axes (map (joined_in axes) a.axes) (each_there_after axes dims a.axes all)

  come_names : axis_names come.axes ≡ axis_names a.axes
  unfolding fitted
  come_names = same_names axes a.axes all

  come_distinct : are_distinct (axis_names come.axes) ≡ true
  come_distinct = ap are_distinct come_names ∙ is.formed.axes.distinct

  come_rank : length (shape_over come.axes) ≡ length (shape_over a.axes)
  unfolding fitted
  come_rank = same_rank axes a.axes

  come_cells : steps_value steps cells ≡ array_of come
  unfolding fitted
  come_cells = takes_value axes [] 0 a.axes cells all refl refl is.formed.cells.whole ∙ fitted_is axes a.axes cells all is.formed.cells.whole refl

  come_cast : steps_value (steps ++ Unary ops.Cast t ∷ []) cells ≡ cast t come
  come_cast = steps_both steps (Unary ops.Cast t ∷ []) cells ∙ ap (steps_value (Unary ops.Cast t ∷ [])) come_cells

  same_steps : spreading axes a.axes ≡ spreading axes come.axes
  same_steps = names_alone axes a.axes come.axes (sym come_names)

  pub over_value : chain_value nodes (over t axes a) ≡ spread axes come.axes (cast t come)
  over_value =
      ap (steps_value (over_steps t axes a.axes)) (array_value nodes a is)
      ∙ steps_both (steps ++ Unary ops.Cast t ∷ []) (spreading axes a.axes) cells
      ∙ (λ i. steps_value (same_steps i) (come_cast i))
      ∙ spread_is axes come.axes dims.distinct come_distinct come_sized (cast t come) refl

  module _ (some : AllByRecursion (λ (x : Axis). 1 ≤ x.size) axes) (few : size (shape_over axes) ≤ 33554432) (low : length axes ≤ 16) where
    over_all : StepsFit (over_steps t axes a.axes) cells × (steps_cells (over_steps t axes a.axes) cells ≤ 16 * size (shape_over a.axes) + 18 * size (shape_over axes))
    over_all =
        let most = size (shape_over a.axes) in
        let long = length-map a.axes (λ (x : Axis). x.size) in
        let rank = is.formed.cells.low_rank in
        let up = is.formed.cells.few in
        let taken = takes_fit axes [] 0 most a.axes cells all refl refl is.formed.cells.whole (omega arith) up rank in
        let come_few = within axes dims.distinct some come.axes come_sized come_distinct in
        let step : StepsFit (Unary ops.Cast t ∷ []) (array_of come) = (record { fits = (omega arith, refl, tt, λ e. absurd cc); small = omega arith; low_rank = omega (arith, come_rank, rank) }, tt) in
        let first = fit_both steps (Unary ops.Cast t ∷ []) cells taken.0 (subst (StepsFit (Unary ops.Cast t ∷ [])) (sym come_cells) step) in
        let last = spreading_fits axes dims.distinct some come.axes (cast t come) refl few come_distinct come_sized low in
        let fits = fit_both (steps ++ Unary ops.Cast t ∷ []) (spreading axes a.axes) cells first (subst (λ (x : List Step × Array). StepsFit x.0 x.1) (λ i. (sym same_steps i, sym come_cast i)) last.0) in
        let cells_one = cells_both steps (Unary ops.Cast t ∷ []) cells in
        let cells_two = cells_both (steps ++ Unary ops.Cast t ∷ []) (spreading axes a.axes) cells in
        let cast_cells : steps_cells (Unary ops.Cast t ∷ []) (steps_value steps cells) ≡ size (shape_over come.axes) + 0 = ap (steps_cells (Unary ops.Cast t ∷ [])) come_cells in
        let last_cells : steps_cells (spreading axes a.axes) (steps_value (steps ++ Unary ops.Cast t ∷ []) cells) ≡ steps_cells (spreading axes come.axes) (cast t come) = (λ i. steps_cells (same_steps i) (come_cast i)) in
        let taken_cells = taken.1 in
        let spread_cells = last.1 in
        let times = mul-le (length a.axes) most 16 most (omega arith) (omega arith) in
        (fits, omega (arith, cells_one, cells_two, cast_cells, last_cells, taken_cells, spread_cells, times, come_few))

    pub over_fits : ChainFits nodes (over t axes a)
    over_fits = record { start = is.node.placed; steps = subst (StepsFit (over_steps t axes a.axes)) (sym (array_value nodes a is)) over_all.0 }

    pub over_cells : chain_cells nodes (over t axes a) ≤ 16 * size (shape_over a.axes) + 18 * size (shape_over axes)
    over_cells = let all_cells = over_all.1 in let same = ap (steps_cells (over_steps t axes a.axes)) (array_value nodes a is) in omega arith

  -- ---- cells of the kind

  come_formed : IsDataArray come
  come_formed = still_formed axes dims own all is.formed

  cast_formed : AreCells (shape_over come.axes) t come.masked (cast t come).cells
  cast_formed =
      let are = come_formed.cells in
      cells_made (shape_over come.axes) t come.masked (λ p. elem ops.Cast t (at (array_of come) p) None) are.low_rank are.few
      (λ p here. cast_in t (at (array_of come) p))
      (λ plain p here. cast_seen (at (array_of come) p) (cell_seen (shape_over come.axes) come.kind come.masked come.cells are plain p here))
    where
      cast_seen : (x : Option ℤ) → is_some x ≡ true → is_some (elem ops.Cast t x None) ≡ true
      cast_seen None e = e
      cast_seen (Some n) e = refl

  along_inside : (p : List ℕ) → IsPoint (shape_over axes) p → IsPoint (shape_over come.axes) (point_along axes come.axes p)
  along_inside p here = inside axes come.axes dims.distinct come_distinct come_sized come.axes p come_sized here

  pub along_in : (p : List ℕ) → IsPoint (shape_over axes) p → IsCell t (cell_along t axes come p)
  along_in p here = cell_in (shape_over come.axes) t come.masked (cast t come).cells cast_formed (point_along axes come.axes p) (along_inside p here)

  pub along_seen : a.masked ≡ false → (p : List ℕ) → IsPoint (shape_over axes) p → is_some (cell_along t axes come p) ≡ true
  along_seen plain p here = cell_seen (shape_over come.axes) t come.masked (cast t come).cells cast_formed (same_masked axes dims own all is.formed ∙ plain) (point_along axes come.axes p) (along_inside p here)
