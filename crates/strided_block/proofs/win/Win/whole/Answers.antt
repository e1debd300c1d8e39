use Rattle.std.proofs.Common.{◌≡◌, map, sym, ap, ◌∙◌}
use Rattle.std.specs.Prelude.{Some}
use Rattle.strided_block.specs.Boxes.{zeros}
use Rattle.strided_block.proofs.Sounds.{zeros_map, whole_sound}
use Rattle.strided_block.proofs.win.Win.whole.Goals as goal

module _ (g : _) (c : goal.After-twin g) where
  low_is : c.zeros_for-low.result ≡ zeros c.into_parts-cells.result.3
  low_is = c.zeros_for-low.ensures ∙ ap (map (λ n. 0)) c.as_slice.ensures.value ∙ zeros_map c.into_parts-cells.result.3

pub invariant_of-result : goal.invariant_of-result
invariant_of-result g c = (c.into_parts-cells.ensures.fields.owner, whole_sound _ _ _ _ _ _ _ c.into_parts-cells.ensures.fields c.twin.ensures (low_is g c))

pub returns-clause-place : goal.returns-clause-place
returns-clause-place g c = record { low = low_is g c ∙ ap zeros (sym c.twin.ensures); shape = sym c.twin.ensures }

pub returns-clause-shape : goal.returns-clause-shape
returns-clause-shape g c = c.twin.ensures ∙ sym (ap (λ b. b.shape) c.into_parts-cells.ensures.value)

pub returns-clause-cells : goal.returns-clause-cells
returns-clause-cells g c = c.into_parts-cells.ensures.fields.whole ∙ sym (ap (λ b. map Some b.cells) c.into_parts-cells.ensures.value)
