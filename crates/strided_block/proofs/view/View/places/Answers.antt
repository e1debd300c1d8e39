use Rattle.std.proofs.Common.{get_or, refl, ap}
use Rattle.strided_block.proofs.Lines.{view_cells, view_within}
use Rattle.strided_block.proofs.view.View.places.Goals as goal

pub returns-clause-within : goal.returns-clause-within
returns-clause-within g c = view_within _ _ _ _ _ c.self.view_is c.self.invariant.1 c.args.axis c.requires.some c.requires.line _ _ refl (ap (λ l. get_or l c.args.axis 0) c.as_slice.ensures.value)

pub returns-clause-cells : goal.returns-clause-cells
returns-clause-cells g c = view_cells _ _ _ _ _ c.self.view_is c.self.invariant.1 c.args.axis c.requires.some c.requires.line _ _ refl (ap (λ l. get_or l c.args.axis 0) c.as_slice.ensures.value)
