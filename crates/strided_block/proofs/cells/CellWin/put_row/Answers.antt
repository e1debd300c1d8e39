use Rattle.std.proofs.Common.{length, get_or, sym, ap, subst, ◌∙◌}
use Rattle.std.specs.Prelude.{Some, None}
use Rattle.xr_types.specs.Points.{IsPoint}
use Rattle.strided_block.specs.Boxes.{plus, along}
use Rattle.strided_block.specs.Typed.{unless_hidden, number_held}
use Rattle.strided_block.proofs.CellLaws.{shown_cell, neither, row_stays_clear}
use Rattle.strided_block.proofs.cells.CellWin.put_row.Goals as goal

pub invariant_of-self : goal.invariant_of-self
invariant_of-self c = record {
  same_box = (let k = c.put_mask.ensures.place in λ i. record { whole = k.whole i; low = k.low i; shape = k.shape i }) ∙ c.args.self.now.same_box ∙ sym c.put_row.ensures.place;
  clear = λ none.
      let both = neither c.args.self.now.masked c.some_missing-missing.result none in
      row_stays_clear _ _ c.args.point.now (length c.args.cells.now) c.put_mask.ensures.place (λ j lt. c.put_mask.ensures.written j lt ∙ ap Some (c.some_missing-missing.ensures both.1 j lt)) c.put_mask.ensures.others (c.args.self.now.clear both.0);
}

pub returns-clause-written : goal.returns-clause-written
returns-clause-written c = λ j lt.
    let low = c.put_mask.ensures.place.low ∙ ap (λ b. b.low) c.args.self.now.same_box in
    shown_cell (get_or c.args.cells.now j None) _ _ (c.put_mask.ensures.written j lt)
    (λ k e. ap (λ l. number_held c.put_row.new.self (plus l (along c.args.point.now j))) low ∙ c.put_row.ensures.written j k lt e)

pub returns-clause-others : goal.returns-clause-others
returns-clause-others c = λ cs i none.
    let box = c.args.self.now.same_box in
    let same_byte = c.put_mask.ensures.others cs i none in
    let same_number = c.put_row.ensures.others cs (subst (λ b. IsPoint b.whole cs) box i) (λ j lt e. none j lt (e ∙ ap (λ b. plus b.low (along c.args.point.now j)) (sym box))) in
    λ j. unless_hidden (same_byte j) (same_number j)
