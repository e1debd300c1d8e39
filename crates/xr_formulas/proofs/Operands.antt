-- The cells of an array as an operand beside a number.
use Rattle.xr_formulas.proofs.Common.{Array, Chain, DType, DataArray, InRange, IsArrayIn, IsCell, IsDataArray, IsOver, IsPlaced, List, Made, Makes, Node, None, Option, Placed, Some, Unary, [], ap, arith, array_in, array_of, array_value, at, cast_to, cond_both, elem, false, ints, is_truths, negsuc, not, operand, placed_cell, placed_on, pos, refl, shape_over, size, subst, suc, sym, tab, tab_read, tab_same, unary_of, with_literal, within_kind, without_fills, zero, ℤ, ◌&&◌, ◌∙◌, ◌∷◌, ◌≡◌}
use Rattle.xr_types.specs.declared.kind.DType.TheVariants as kinds
use Rattle.xr_types.specs.declared.operation.OpKind.TheVariants as ops
use Rattle.plan_core.proofs.Arrangements.{wrapped_in}
use Rattle.xr_defs.specs.Values as of
use Rattle.xr_formulas.specs.declared.chain.Start.TheVariants as starts
use Rattle.xr_formulas.proofs.Answered.{casts}
use Rattle.xr_formulas.proofs.Cells.{cell_in, changed_cells}
use Rattle.xr_formulas.proofs.Changes.{step_fits}
use Rattle.xr_formulas.proofs.Compared.{within_says}

-- ---- a cast to its own kind

number_kept : (t : DType) (n : ℤ) → InRange t n → cast_to t n ≡ n
number_kept kinds.Bool (pos zero) is = refl
number_kept kinds.Bool (pos (suc zero)) is = refl
number_kept kinds.Bool (pos (suc (suc n))) is = let most = is.1 in absurd (omega (arith, ints, most))
number_kept kinds.Bool (negsuc n) is = let least = is.0 in absurd (omega (arith, ints, least))
number_kept t n is = wrapped_in t n is

cell_kept : (t : DType) (x : Option ℤ) → IsCell t x → elem ops.Cast t x None ≡ x
cell_kept t None is = refl
cell_kept t (Some n) is = ap Some (number_kept t n is)

pub cells_kept : (a : of.DataArray) → IsDataArray a → unary_of ops.Cast a.kind (array_of a) ≡ array_of a
cells_kept a is =
    ap (λ cells. record { kind = a.kind; shape = shape_over a.axes; cells = cells })
    (tab_same (shape_over a.axes) (λ p. elem ops.Cast a.kind (at (array_of a) p) None) (λ p. at (array_of a) p) (λ p here. cell_kept a.kind (at (array_of a) p) (cell_in (shape_over a.axes) a.kind a.masked a.cells is.cells p here))
    ∙ tab_read (shape_over a.axes) a.cells None is.cells.whole)

-- ---- the operand

module _ (nodes : List Node) (a : DataArray) (is : IsArrayIn nodes a) where
  abbrev means : of.DataArray
  means = array_in nodes a

  abbrev plain : Chain
  plain = record { start = starts.Node a.node; steps = [] }

  abbrev cast : DType → Chain
  cast t = record { start = starts.Node a.node; steps = Unary ops.Cast t ∷ [] }

  abbrev cells_in : DType → List (Option ℤ)
  cells_in t = (unary_of ops.Cast t (array_of means)).cells

  pub plain_over : IsOver nodes means a.kind means.cells plain
  plain_over = record {
    fits = record { start = is.node.placed; steps = tt };
    is = array_value nodes a is;
    whole = is.formed.cells;
    few = omega arith;
  }

  plain_cast : (t : DType) → t ≡ a.kind → IsOver nodes means t (cells_in t) plain
  plain_cast t same =
      subst (λ u. IsOver nodes means u (cells_in u) plain) (sym same)
      (subst (λ cells. IsOver nodes means a.kind cells plain) (sym (ap (λ (v : Array). v.cells) (cells_kept means is.formed))) plain_over)

  cast_over : (t : DType) → IsOver nodes means t (cells_in t) (cast t)
  cast_over t = record {
    fits = record { start = is.node.placed; steps = (step_fits nodes a ops.Cast t (casts t a.kind) is, tt) };
    is = ap (unary_of ops.Cast t) (array_value nodes a is);
    whole = changed_cells ops.Cast t a.kind a.masked (shape_over a.axes) means.cells is.formed.cells (casts t a.kind);
    few = let points = ap size is.node.has_shape in omega arith;
  }

  pub operand_over : (t : DType) → ((is_truths a.kind && not (is_truths t)) ≡ false → t ≡ a.kind) → IsOver nodes means t (cells_in t) (operand a t)
  operand_over t same = cond_both (is_truths a.kind && not (is_truths t)) (cast t) plain (IsOver nodes means t (cells_in t)) (λ e. cast_over t) (λ e. plain_cast t (same e))

  -- ---- what comes of it and the number is the operation with the number as it is

  module _ (t : DType) (p : Placed) (placed : IsPlaced t p) (same : (is_truths a.kind && not (is_truths t)) ≡ false → t ≡ a.kind) where
    abbrev result : DType → List (Option ℤ) → of.DataArray
    result kind cells = record means { kind = kind; masked = a.masked; attrs = without_fills a.attrs; cells = cells }

    literal_says : placed_on t (within_kind t p) a.masked (without_fills a.attrs) (cells_in t) means ≡ with_literal p.side p.op t p.number means
    unfolding with_literal
    literal_says =
        let says = within_says t p placed in
        let over = operand_over t same in
        let own : Array = record { kind = t; shape = shape_over a.axes; cells = cells_in t } in
        ap (λ kind. result kind (tab (shape_over a.axes) (λ q. placed_cell t (within_kind t p) (at own q)))) says.kind
        ∙ ap (result _) (tab_same (shape_over a.axes) (λ q. placed_cell t (within_kind t p) (at own q)) (λ q. placed_cell t p (at own q)) (λ q here. says.says (at own q) (cell_in (shape_over a.axes) t a.masked (cells_in t) over.whole q here)))

    pub literal_makes : (m : Made) → Makes nodes (placed_on t (within_kind t p) a.masked (without_fills a.attrs) (cells_in t) means) m → Makes nodes (with_literal p.side p.op t p.number means) m
    literal_makes m makes = subst (λ d. Makes nodes d m) literal_says makes
