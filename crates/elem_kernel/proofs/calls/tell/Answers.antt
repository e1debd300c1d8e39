use Rattle.std.proofs.Common.{ap, subst, ◌∙◌}
use Rattle.xr_types.specs.Points.{IsPoint}
use Rattle.strided_block.specs.Boxes.{plus}
use Rattle.strided_block.specs.Views.{cell_at}
use Rattle.strided_block.specs.Typed.{view_kind, number_held, unless_hidden}
use Rattle.elem_kernel.proofs.Made.{told}
use Rattle.elem_kernel.proofs.calls.tell.Goals as goal

pub returns-clause-cells : goal.returns-clause-cells
returns-clause-cells c = λ p i.
    let box = c.args.out.now.same_box in
    let tells = c.tell_window.ensures.cells p (subst (λ b. IsPoint b.shape p) box i) in
    let low = ap (λ b. b.low) (c.show_all.ensures.place ∙ box) in
    (λ j. unless_hidden (cell_at c.show_all.new.out.mask p) (number_held (c.show_all.ensures.cells j) (plus (low j) p)))
    ∙ told c.args.op (view_kind c.args.a.now.cells) c.requires.op _ _ _ _ (c.show_all.ensures.bytes p i) tells
