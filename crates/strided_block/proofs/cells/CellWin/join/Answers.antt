use Rattle.std.proofs.Common.{sym, ◌∙◌}
use Rattle.strided_block.specs.Typed.{both_parts}
use Rattle.strided_block.proofs.Clears.{or_false, cut_box, clear_both}
use Rattle.strided_block.proofs.cells.CellWin.join.Goals as goal

pub invariant_of-result : goal.invariant_of-result
invariant_of-result c = record {
  same_box = cut_box _ _ _ _ c.join-2.ensures.place ∙ (λ i. both_parts (c.args.self.same_box i) (c.args.other.same_box i) c.args.axis) ∙ sym c.join.ensures.place;
  clear = λ e.
      let both = or_false c.args.self.masked c.args.other.masked e in
      clear_both 0 c.args.self.mask c.args.other.mask _ c.args.axis c.requires.axis c.requires.halves.low c.requires.halves.shape c.join-2.ensures.place c.join-2.ensures.cells.0 c.join-2.ensures.cells.1
      (c.args.self.clear both.0) (c.args.other.clear both.1);
}
