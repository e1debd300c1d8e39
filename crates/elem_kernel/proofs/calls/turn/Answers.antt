use Rattle.std.proofs.Common.{ap, subst, ◌∙◌}
use Rattle.xr_types.specs.Points.{IsPoint}
use Rattle.strided_block.specs.Boxes.{plus}
use Rattle.strided_block.specs.Views.{cell_at}
use Rattle.strided_block.specs.Typed.{win_kind, number_held, unless_hidden}
use Rattle.elem_kernel.proofs.Made.{turned, sign_strict}
use Rattle.elem_kernel.proofs.calls.turn.Goals as goal

pub returns-clause-cells : goal.returns-clause-cells
returns-clause-cells c = λ p i.
    let box = c.args.out.now.same_box in
    let numbers = c.turn_numbers.ensures.cells p (subst (λ b. IsPoint b.shape p) box i) in
    let low = ap (λ b. b.low) (c.copy_mask.ensures.place ∙ box) in
    let t = win_kind c.args.out.now.cells in
    (λ j. unless_hidden (cell_at c.copy_mask.new.out.mask p) (number_held (c.copy_mask.ensures.cells j) (plus (low j) p)))
    ∙ turned c.args.op t (sign_strict c.args.op t c.requires.op) _ _ _ _ (c.copy_mask.ensures.bytes p i) numbers
