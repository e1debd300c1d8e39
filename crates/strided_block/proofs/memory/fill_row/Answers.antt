use Rattle.std.proofs.Common.{sym, ◌∙◌, arith}
use Rattle.std.specs.Prelude.{replicate}
use Rattle.std.proofs.lemmas.List.{get_or-replicate, length-replicate, same_lists}
use Rattle.core.specs.Mem.Slots.{slots_items, slots_counts}
use Rattle.strided_block.proofs.memory.fill_row.Goals as goal

pub returns : goal.returns
returns g c =
    let row = c.loop-i.row in let xs = slots_items row in let n = c.args.count in let x = c.args.cell in
    let l = (slots_counts row).0 in let same = c.loop-i.invariant.count ∙ c.requires in let r = length-replicate n x in let over = c.loop-i-test.false in (
      λ k low lt. c.loop-i.invariant.filled k low (omega (arith, lt)),
      same_lists xs (replicate n x) (omega arith) (λ k d lt. c.loop-i.invariant.cells k d (omega (arith, lt)) ∙ sym (get_or-replicate n k x d (omega (arith, lt)))),
      c.loop-i.invariant.place,
      c.loop-i.invariant.count,
    )
