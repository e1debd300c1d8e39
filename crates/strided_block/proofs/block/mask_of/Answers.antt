use Rattle.std.proofs.Common.{◌≡◌}
use Rattle.strided_block.specs.Typed.{mask_byte}
use Rattle.strided_block.proofs.Puts.{block_kept, if_ok}
use Rattle.strided_block.proofs.block.mask_of.Goals as goal

pub returns-clause-cells : goal.returns-clause-cells
returns-clause-cells c =
    if_ok (λ b. b ≡ record { shape = c.args.shape.now; cells = c.as_slice.result.now }) _ c.of_slice.result
    (λ b e p i. block_kept mask_byte c.args.cells.now c.in_ok-cells.cells.items c.as_slice.result.now b c.args.shape.now p e c.as_slice.ensures.value c.in_ok-cells.ensures.long c.requires c.in_ok-cells.ensures.cells i) c.of_slice.ensures
