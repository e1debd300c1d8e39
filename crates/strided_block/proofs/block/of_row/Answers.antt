use Rattle.std.proofs.Common.{List, sym, ap, ◌∙◌, arith}
use Rattle.core.specs.Mem.Slots.{slots_items, slots_counts}
use Rattle.strided_block.proofs.Owned.{row_block, row_cells}
use Rattle.strided_block.proofs.block.of_row.Goals as goal

pub invariant_of-result : goal.invariant_of-result
invariant_of-result g c =
    let xs = slots_items c.args.row in let n = (slots_counts c.args.row).0 in let l = c.len-count.ensures in let some = c.if-count-eq0.false in
    row_block _ _ _ _ _ xs c.args.deed c.of-cells.ensures.0 c.of-cells.ensures.1 c.of-cells.ensures.2 c.requires.deed.0 (c.requires.deed.1 ∙ n) (sym n ∙ c.requires.row.1) (omega (arith, n, c.requires.row.2)) (λ z. some (l ∙ n ∙ z))

pub returns-else-count-eq0 : goal.returns-else-count-eq0
returns-else-count-eq0 g c = ap (λ (l : List g.row.T.Denot). record { shape = c.args.shape; cells = l }) (row_cells _ _ c.of-cells.ensures.2)
