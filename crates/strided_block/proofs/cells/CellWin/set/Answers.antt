use Rattle.std.proofs.Common.{rules}
use Rattle.strided_block.proofs.CellLaws.{stays_clear}
use Rattle.strided_block.proofs.cells.CellWin.set.Goals as goal

pub invariant_of-self : goal.invariant_of-self
invariant_of-self c = record {
  same_box = search rules;
  clear = λ none. stays_clear _ _ c.args.point.now c.set-in-Some.ensures.place c.set-in-Some.ensures.written c.set-in-Some.ensures.others (c.args.self.now.clear none);
}
