use Rattle.std.proofs.Common.{◌<◌, length, get_or, sym, ap, subst, ◌∙◌, arith}
use Rattle.std.specs.Prelude.{Some, None}
use Rattle.xr_types.specs.Points.{place, IsPoint}
use Rattle.strided_block.proofs.Boxes.{place_below}
use Rattle.strided_block.proofs.CellLaws.{shown_cell}
use Rattle.strided_block.proofs.cells.CellBlock.from_slice.Goals as goal

pub invariant_of-result : goal.invariant_of-result
invariant_of-result c = record {
  same_shape = c.in_ok-mask.ensures.shape ∙ sym c.in_ok-numbers.ensures.shape;
  clear = λ none p i.
      let j : IsPoint c.args.shape.now p = subst (λ s. IsPoint s p) c.in_ok-mask.ensures.shape i in
      let below = place_below c.args.shape.now p j in let lt : place c.args.shape.now p < length c.args.cells.now = omega (arith, c.requires.count) in
      c.in_ok-mask.ensures.cells p j ∙ ap Some (c.some_missing.ensures none (place c.args.shape.now p) lt);
}

pub returns-clause-cells : goal.returns-clause-cells
returns-clause-cells c = λ p i. shown_cell (get_or c.args.cells.now (place c.args.shape.now p) None) _ _ (c.in_ok-mask.ensures.cells p i) (λ k e. c.in_ok-numbers.ensures.cells p k i e)
