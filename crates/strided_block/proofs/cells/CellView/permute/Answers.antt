use Rattle.std.proofs.Common.{map, get_or, sym, ap, subst, ◌∙◌}
use Rattle.xr_types.specs.Points.{IsPoint}
use Rattle.xr_arrays.specs.Nodes.{moved}
use Rattle.strided_block.proofs.Orders.{order_inside}
use Rattle.strided_block.proofs.cells.CellView.permute.Goals as goal

pub invariant_of-result : goal.invariant_of-result
invariant_of-result c = record {
  same_shape = c.permute-2.ensures.shape ∙ ap (λ s. map (λ k. get_or s k 0) c.args.order.now) c.args.self.same_shape ∙ sym c.permute.ensures.shape;
  clear = λ none p i. c.permute-2.ensures.cells p i ∙ c.args.self.clear none (moved c.args.order.now p) (order_inside c.args.self.mask.shape c.args.order.now p c.requires (subst (λ s. IsPoint s p) c.permute-2.ensures.shape i));
}
