use Rattle.std.proofs.Common.{ap, subst, ◌∙◌}
use Rattle.std.specs.Prelude.{option_map}
use Rattle.xr_types.specs.Points.{IsPoint}
use Rattle.strided_block.specs.Boxes.{plus}
use Rattle.strided_block.specs.Views.{cell_at}
use Rattle.strided_block.specs.Typed.{truth, number_shown, number_held, unless_hidden}
use Rattle.elem_kernel.proofs.Made.{chosen_by}
use Rattle.elem_kernel.proofs.calls.choose.Goals as goal

pub returns-clause-cells : goal.returns-clause-cells
returns-clause-cells c = λ p i.
    let box = c.args.out.now.same_box in
    let numbers = c.pick_numbers.ensures.cells p (subst (λ b. IsPoint b.shape p) box i) in
    let low = ap (λ b. b.low) (c.choose_masks.ensures.place ∙ box) in
    let truths = ap (λ v. number_shown v p) c.bools-by.ensures ∙ ap (option_map truth) numbers.third in
    (λ j. unless_hidden (cell_at c.choose_masks.new.out.mask p) (number_held (c.choose_masks.ensures.cells j) (plus (low j) p)))
    ∙ chosen_by numbers.u _ _ _ _ _ _ _ _ truths (c.choose_masks.ensures.bytes p i numbers.u numbers.third) numbers.z numbers.y numbers.x numbers.second numbers.first numbers.result numbers.holds
