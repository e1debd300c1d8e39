-- Arrays of a plan at new labels.
use Rattle.xr_changing.proofs.Common.{AddsAtMost, AllByRecursion, AreIndexed, Array, Axis, ChainFits, Change, CoordFits, IsArrayIn, IsChanged, IsDataArray, IsValueOf, List, Node, Ok, Option, Step, StepsFit, TakesFit, TooLarge, adds_up, and_parts, ap, are_distinct, arith, array_in, axis_names, chain_cells, chain_value, changed_array, changed_cells, changed_coord, check_array, map, masked_along, names_of, new_axis, own_axes, passed, refl, shape_over, span, steps_along, steps_cells, steps_value, subst, sym, value, ℕ, ℤ, ◌*◌, ◌++◌, ◌∙◌, ◌≡◌, ◌≤◌}
use Rattle.xr_defs.specs.Values as of
use Rattle.xr_values.specs.declared.data_array.DataArray.{DataArray}
use Rattle.xr_values.proofs.Grown.{array_value}
use Rattle.xr_formulas.specs.declared.chain.Chain.{Chain}
use Rattle.xr_formulas.specs.declared.chain.Start.TheVariants as starts
use Rattle.xr_changing.proofs.Formed.{changed_over, coord_names, coords_formed, new_dims, within, IsChangedTo}
use Rattle.xr_changing.proofs.NewAxes.{names_kept}

pub record ArrayFits (cs : List Change) (fill : Option ℤ) (a : DataArray) : Type 0 where
  pub indexed : AreIndexed cs a.axes
  pub coords : AllByRecursion (CoordFits cs fill) a.coords
  pub cells : TakesFit (steps_along cs fill (axis_names a.axes)) (shape_over a.axes) a.kind

module _ (nodes : List Node) (cs : List Change) (fill : Option ℤ) (a : DataArray) (is : IsArrayIn nodes a) (fits : ArrayFits cs fill a) where
  abbrev means : of.DataArray
  means = changed_array cs fill (array_in nodes a)

  abbrev names : List (List ℕ)
  names = axis_names a.axes

  abbrev news : List Axis
  news = map (new_axis cs) a.axes

  -- its cells
  abbrev own : Array
  own = of.array_of (array_in nodes a)

  abbrev steps : List Step
  steps = steps_along cs fill (axis_names a.axes)

  to : IsChangedTo cs fill a.axes names (shape_over news) a.masked own
  to = changed_over cs fill a.axes a.axes a.masked own (own_axes a.axes is.formed.axes.distinct) is.formed.axes.distinct refl is.formed.cells fits.cells

  fit : StepsFit steps (value nodes a.node) × (steps_cells steps (value nodes a.node) ≤ 16 * span (a.axes ++ news))
  fit = subst (λ b. StepsFit steps b × (steps_cells steps b ≤ 16 * span (a.axes ++ news))) (sym (array_value nodes a is)) (to.fits, to.few)

  formed : check_array means ≡ Ok tt → IsDataArray means
  unfolding check_array
  formed check =
      let parts = and_parts _ _ (passed _ TooLarge check) in
      record {
        name = is.formed.name;
        axes = record { each = new_dims cs a.axes is.formed.axes.each fits.indexed (within (shape_over news) parts.0).1; distinct = ap are_distinct (names_kept cs a.axes) ∙ is.formed.axes.distinct };
        coords = coords_formed cs fill a.axes a.coords is.formed.coords fits.coords parts.1;
        distinct = ap (λ ns. are_distinct (ns ++ names_of means.coords)) (names_kept cs a.axes) ∙ ap (λ ns. are_distinct (names ++ ns)) (coord_names cs fill a.coords) ∙ is.formed.distinct;
        attrs = is.formed.attrs;
        cells = to.cells parts.0;
      }

  -- what is made, with this node
  abbrev pub made : ℕ → DataArray
  made n = record a { axes = map (new_axis cs) a.axes; masked = masked_along cs (axis_names a.axes) fill a.masked; coords = map (changed_coord cs fill) a.coords; node = n }

  abbrev pub chain : Chain
  chain = record { start = starts.Node a.node; steps = steps_along cs fill (axis_names a.axes) }

  pub chain_fits : (ss : Chain) → ss ≡ chain → ChainFits nodes ss
  chain_fits ss e = rw e (record { start = is.node.placed; steps = fit.0 })

  pub array_placed : check_array means ≡ Ok tt → (new : List Node) (n : ℕ) (b : DataArray) → b ≡ made n → (ss : Chain) → ss ≡ chain → IsValueOf new (chain_value nodes ss) n → AddsAtMost nodes new (chain_cells nodes ss) → IsChanged nodes new means (array_in nodes a) b
  array_placed check new n b e ss f told adds =
      let there : value new n ≡ changed_cells cs names fill own = told.is ∙ ap (chain_value nodes) f ∙ ap (steps_value steps) (array_value nodes a is) ∙ to.value in
      let same : array_in new (made n) ≡ means = ap (λ (v : Array). record means { cells = v.cells }) there in
      let most = fit.1 in
      let cells = ap (chain_cells nodes) f in
      rw e (record {
        is = same;
        inside = record {
          node = record { placed = told.inside; has_shape = ap (λ (v : Array). v.shape) there ∙ to.shape; has_kind = ap (λ (v : Array). v.kind) there ∙ to.kind };
          formed = subst IsDataArray (sym same) (formed check);
        };
        space = adds_up nodes new (chain_cells nodes ss) (16 * span (a.axes ++ news)) (omega (arith, cells, most)) adds;
      })
