use Rattle.std.proofs.Common.{sym, ap, ◌∙◌}
use Rattle.strided_block.proofs.Sounds.{back_cells, back_block}
use Rattle.strided_block.proofs.win.Win.into_block.Goals as goal

pub invariant_of-result : goal.invariant_of-result
invariant_of-result g c = back_block _ _ c.self.view_is c.self.invariant.1 c.requires _ _ _ c.self.invariant.0

pub returns-clause-cells : goal.returns-clause-cells
returns-clause-cells g c = sym (back_cells _ _ c.self.view_is c.self.invariant.1 c.requires) ∙ ap (λ w. w.slots) c.self.view_is
