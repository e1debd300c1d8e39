use Rattle.std.proofs.Common.{sym, ap, ◌∙◌}
use Rattle.strided_block.proofs.Puts.{block_clear_of}
use Rattle.strided_block.proofs.cells.CellWin.into_block.Goals as goal

pub invariant_of-result : goal.invariant_of-result
invariant_of-result c = record {
  same_shape = c.into_block-2.ensures.shape ∙ ap (λ b. b.whole) c.args.self.same_box ∙ sym c.into_block.ensures.shape;
  clear = λ none. block_clear_of c.into_block-2.result c.args.self.mask c.requires c.into_block-2.ensures.shape c.into_block-2.ensures.cells (c.args.self.clear none);
}
