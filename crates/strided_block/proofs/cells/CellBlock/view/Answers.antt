use Rattle.std.proofs.Common.{sym, ap, subst, ◌∙◌}
use Rattle.xr_types.specs.Points.{IsPoint}
use Rattle.strided_block.specs.Typed.{unless_hidden}
use Rattle.strided_block.proofs.cells.CellBlock.view.Goals as goal

pub invariant_of-result : goal.invariant_of-result
invariant_of-result c = record {
  same_shape = ap (λ u. u.shape) c.view-2.ensures.value ∙ c.args.self.now.same_shape ∙ sym c.view.ensures.shape;
  clear = λ none p i.
      let j : IsPoint c.args.self.now.mask.shape p = subst (λ s. IsPoint s p) (ap (λ u. u.shape) c.view-2.ensures.value) i in
      c.view-2.ensures.cells p j ∙ c.args.self.now.clear none p j;
}

pub returns-clause-cells : goal.returns-clause-cells
returns-clause-cells c = λ p i.
    let same_byte = c.view-2.ensures.cells p i in
    let same_number = c.view.ensures.cells p (subst (λ s. IsPoint s p) c.args.self.now.same_shape i) in
    λ j. unless_hidden (same_byte j) (same_number j)
