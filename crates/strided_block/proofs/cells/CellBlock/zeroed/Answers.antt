use Rattle.std.proofs.Common.{sym, ap, subst, ◌∙◌}
use Rattle.xr_types.specs.Points.{IsPoint}
use Rattle.strided_block.specs.Typed.{unless_hidden}
use Rattle.strided_block.proofs.Puts.{alike}
use Rattle.strided_block.proofs.cells.CellBlock.zeroed.Goals as goal

pub invariant_of-result : goal.invariant_of-result
invariant_of-result c = record {
  same_shape = ap (λ u. u.shape) c.in_ok-mask.ensures ∙ sym c.in_ok-cells.ensures.shape;
  clear = λ none p i. alike _ c.args.shape.now p 0 c.in_ok-mask.ensures (subst (λ s. IsPoint s p) (ap (λ u. u.shape) c.in_ok-mask.ensures) i);
}

pub returns-clause-cells : goal.returns-clause-cells
returns-clause-cells c = λ p i. let here = alike _ c.args.shape.now p 0 c.in_ok-mask.ensures i in let zero_at = c.in_ok-cells.ensures.cells p i in λ j. unless_hidden (here j) (zero_at j)
