use Rattle.std.proofs.Common.{sym, ◌∙◌}
use Rattle.strided_block.proofs.Puts.{wide_boxes, whole_clear}
use Rattle.strided_block.proofs.cells.CellWin.whole.Goals as goal

pub invariant_of-result : goal.invariant_of-result
invariant_of-result c = record {
  same_box = wide_boxes _ _ c.whole-2.ensures.place c.whole.ensures.place (c.whole-2.ensures.shape ∙ c.args.block.same_shape ∙ sym c.whole.ensures.shape);
  clear = λ none. whole_clear c.args.block.mask c.whole-2.result c.whole-2.ensures.place c.whole-2.ensures.shape c.whole-2.ensures.cells (c.args.block.clear none);
}
