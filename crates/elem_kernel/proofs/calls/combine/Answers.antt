use Rattle.std.proofs.Common.{ap, subst, ◌∙◌}
use Rattle.xr_types.specs.Points.{IsPoint}
use Rattle.strided_block.specs.Boxes.{plus}
use Rattle.strided_block.specs.Views.{cell_at}
use Rattle.strided_block.specs.Typed.{win_kind, number_held, unless_hidden}
use Rattle.elem_kernel.proofs.Made.{combined, numeric_strict}
use Rattle.elem_kernel.proofs.calls.combine.Goals as goal

pub returns-clause-cells : goal.returns-clause-cells
returns-clause-cells c = λ p i.
    let box = c.args.out.now.same_box in
    let numbers = c.combine_numbers.ensures.cells p (subst (λ b. IsPoint b.shape p) box i) in
    let low = ap (λ b. b.low) (c.join_masks.ensures.place ∙ box) in
    let t = win_kind c.args.out.now.cells in
    (λ j. unless_hidden (cell_at c.join_masks.new.out.mask p) (number_held (c.join_masks.ensures.cells j) (plus (low j) p)))
    ∙ combined c.args.op t (numeric_strict c.args.op t c.requires.op) _ _ _ _ _ _ (c.join_masks.ensures.bytes p i) numbers
