-- An array with a formula for its cells, and with an operation on each of them.
use Rattle.xr_formulas.proofs.Common.{AreAttributes, AreCells, Array, Attr, Bool, Changes, DType, DataArray, FormulaFits, Gives, IsArrayIn, IsDataArray, List, Makes, Node, OpKind, Option, StepFits, Suits, Unary, [], ap, arith, array_in, array_of, array_value, changed, formula_cells, formula_value, length, like, lit<, made_with, masked_after, most_axes, most_node_cells, points_above, shape_over, size, span, subst, sym, unary_of, value, ℤ, ◌*◌, ◌∷◌, ◌≡◌, ◌≤◌}
use Rattle.xr_defs.specs.Values as of
use Rattle.xr_formulas.specs.declared.chain.Start.TheVariants as starts
use Rattle.xr_formulas.specs.declared.made.Formula.{Formula}
use Rattle.xr_formulas.specs.declared.made.Formula.TheVariants.{One}
use Rattle.xr_formulas.proofs.Cells.{changed_cells}

-- the points of an array are within its span
pub own_span : (a : of.DataArray) → IsDataArray a → size (shape_over a.axes) ≤ span a.axes
own_span a is = points_above a.axes a.axes is.axes.distinct (λ n e. e) (λ n. omega arith)

module _ (nodes : List Node) (a : DataArray) (is : IsArrayIn nodes a) (kind : DType) (masked : Bool) (attrs : List Attr) (are : AreAttributes attrs) where
  -- the formula has these cells
  pub like_makes : (f : Formula) (cells : List (Option ℤ)) → FormulaFits nodes f → formula_value nodes f ≡ record { kind = kind; shape = shape_over a.axes; cells = cells } → AreCells (shape_over a.axes) kind masked cells → formula_cells nodes f ≤ 256 * span a.axes
      → Makes nodes (record (array_in nodes a) { kind = kind; masked = masked; attrs = attrs; cells = cells }) (like a kind masked attrs f)
  like_makes f cells fits value_is whole room =
      let same = ap (λ (v : Array). made_with (like a kind masked attrs f) v.cells) value_is in
      record {
        is = same;
        made = record {
          fits = fits;
          shape = ap (λ (v : Array). v.shape) value_is;
          kind = ap (λ (v : Array). v.kind) value_is;
          formed = subst IsDataArray (sym same) (record { name = is.formed.name; axes = is.formed.axes; coords = is.formed.coords; distinct = is.formed.distinct; attrs = are; cells = whole });
          room = room;
        };
      }

module _ (nodes : List Node) (a : DataArray) (op : OpKind) (kind : DType) (does : Changes op kind a.kind) (is : IsArrayIn nodes a) where
  pub step_fits : StepFits (Unary op kind) (value nodes a.node)
  step_fits = record {
    fits = (lit< tt, does.one, subst (Gives op kind) (sym is.node.has_kind) does.gives, subst (Suits op) (sym is.node.has_kind) does.suits);
    small = subst (λ s. size s ≤ most_node_cells) (sym is.node.has_shape) (let few = is.formed.cells.few in omega arith);
    low_rank = subst (λ s. length s ≤ most_axes) (sym is.node.has_shape) is.formed.cells.low_rank;
  }

  pub change_makes : (attrs : List Attr) → AreAttributes attrs
      → Makes nodes (changed op kind attrs (array_in nodes a)) (like a kind (masked_after op a.masked) attrs (One (record { start = starts.Node a.node; steps = Unary op kind ∷ [] })))
  change_makes attrs are =
      let over = own_span (array_in nodes a) is.formed in
      let points = ap size is.node.has_shape in
      like_makes nodes a is kind (masked_after op a.masked) attrs are (One (record { start = starts.Node a.node; steps = Unary op kind ∷ [] })) (unary_of op kind (array_of (array_in nodes a))).cells (record { start = is.node.placed; steps = (step_fits, tt) })
      (ap (unary_of op kind) (array_value nodes a is)) (changed_cells op kind a.kind a.masked (shape_over a.axes) (array_in nodes a).cells is.formed.cells does) (omega arith)
