use Rattle.std.proofs.Common.{sym, ap, ◌∙◌}
use Rattle.strided_block.specs.Typed.{low_part, high_part}
use Rattle.strided_block.proofs.Clears.{cut_box, clear_low, clear_high}
use Rattle.strided_block.proofs.cells.CellWin.split.Goals as goal

pub invariant_of-result : goal.invariant_of-result
invariant_of-result c = record {
  same_box = cut_box _ _ _ _ c.split-first.ensures.first.0 ∙ ap (λ b. low_part b c.args.axis c.args.at) c.args.self.same_box ∙ sym c.split-one.ensures.first.0;
  clear = λ e. clear_low 0 c.args.self.mask _ c.args.axis c.requires.axis c.args.at c.requires.at (c.args.self.clear e) c.split-first.ensures.first.0 c.split-first.ensures.first.1;
}

pub invariant_of-result-2 : goal.invariant_of-result-2
invariant_of-result-2 c = record {
  same_box = cut_box _ _ _ _ c.split-first.ensures.second.0 ∙ ap (λ b. high_part b c.args.axis c.args.at) c.args.self.same_box ∙ sym c.split-one.ensures.second.0;
  clear = λ e. clear_high 0 c.args.self.mask _ c.args.axis c.requires.axis c.args.at c.requires.at (c.args.self.clear e) c.split-first.ensures.second.0 c.split-first.ensures.second.1;
}
