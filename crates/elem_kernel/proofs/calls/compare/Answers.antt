use Rattle.std.proofs.Common.{ap, subst, ◌∙◌}
use Rattle.xr_types.specs.Points.{IsPoint}
use Rattle.strided_block.specs.Boxes.{plus}
use Rattle.strided_block.specs.Views.{cell_at}
use Rattle.strided_block.specs.Typed.{view_kind, number_held, unless_hidden}
use Rattle.elem_kernel.proofs.Made.{compared}
use Rattle.elem_kernel.proofs.calls.compare.Goals as goal

pub returns-clause-cells : goal.returns-clause-cells
returns-clause-cells c = λ p i.
    let box = c.args.out.now.same_box in
    let numbers = c.compare_window.ensures.cells p (subst (λ b. IsPoint b.shape p) box i) in
    let low = ap (λ b. b.low) (c.join_masks.ensures.place ∙ box) in
    (λ j. unless_hidden (cell_at c.join_masks.new.out.mask p) (number_held (c.join_masks.ensures.cells j) (plus (low j) p)))
    ∙ ap (unless_hidden (cell_at c.join_masks.new.out.mask p)) numbers.1
    ∙ compared c.args.op (view_kind c.args.a.now.cells) c.requires.op _ _ _ _ _ numbers.0 (c.join_masks.ensures.bytes p i) numbers.2
