use Rattle.std.proofs.Common.{ap, subst, ◌∙◌}
use Rattle.xr_types.specs.Points.{IsPoint}
use Rattle.strided_block.specs.Boxes.{plus}
use Rattle.strided_block.specs.Views.{cell_at}
use Rattle.strided_block.specs.Typed.{number_held, unless_hidden}
use Rattle.elem_kernel.proofs.Made.{filled_in}
use Rattle.elem_kernel.proofs.calls.fill_missing.Goals as goal

pub returns-clause-cells : goal.returns-clause-cells
returns-clause-cells c = λ p i.
    let box = c.args.out.now.same_box in
    let numbers = c.pick_numbers.ensures.cells p (subst (λ b. IsPoint b.shape p) box i) in
    let low = ap (λ b. b.low) (c.pick_masks.ensures.place ∙ box) in
    (λ j. unless_hidden (cell_at c.pick_masks.new.out.mask p) (number_held (c.pick_masks.ensures.cells j) (plus (low j) p)))
    ∙ filled_in _ _ _ _ _ _ (c.pick_masks.ensures.bytes p i) numbers
