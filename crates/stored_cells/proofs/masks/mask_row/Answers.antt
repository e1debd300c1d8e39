use Rattle.std.proofs.Common.{◌≡◌, ◌∙◌, sym, ap, pos, rules, length, take, get_or}
use Rattle.std.specs.Int.{w128}
use Rattle.std.proofs.lemmas.Int.{to_z-of_z}
use Rattle.std.proofs.lemmas.List.{take_all}
use Rattle.stored_cells.specs.Masks.{mark}
use Rattle.stored_cells.proofs.MaskedCells.{row_more, masked_row, all_written}
use Rattle.stored_cells.proofs.masks.mask_row.Goals as goal

pub loop-fill-preserved : goal.loop-fill-preserved
loop-fill-preserved g c =
    let k = c.loop-fill.fill-index in
    let fills = c.args.fills.now in
    let kept : length c.mark_row.new.mask ≡ length c.loop-fill.mask.items = c.mark_row.ensures.long ∙ ap length c.deref_mut.ensures.value in
    let counted : length c.loop-fill.mask.items ≡ c.loop-fill.mask.len = sym (ap length c.deref_mut.ensures.value) ∙ c.deref_mut.ensures.len in
    let written = all_written c.mark_row.new.mask c.loop-fill.mask.items c.loop-fill.mask.len (kept ∙ counted) counted in
    record {
      long = ap length written ∙ kept ∙ c.loop-fill.invariant.long;
      marked = λ i x lt.
          ap (λ ms. get_or ms i 0) written
          ∙ row_more fills k (pos 0) (g.T.Elem.number (get_or c.args.cells.now i x)) _ (get_or c.deref_mut.result.now i 0) (get_or c.mark_row.new.mask i 0) c.loop-fill-test.true (to_z-of_z w128 (get_or fills k (pos 0)) (search rules))
          (c.mark_row.ensures.marks i x lt) (ap (λ ms. get_or ms i 0) c.deref_mut.ensures.value ∙ c.loop-fill.invariant.marked i x lt);
    }

pub returns : goal.returns
returns g c =
    let fills = c.args.fills.now in
    let all : take c.loop-fill.fill-index fills ≡ fills = take_all c.loop-fill.fill-index fills c.loop-fill-test.false in
    c.of.ensures ∙ masked_row g.T.Elem.number c.args.cells.now fills c.loop-fill.mask.items c.loop-fill.invariant.long
    (λ i x lt. c.loop-fill.invariant.marked i x lt ∙ ap (λ fs. mark fs (g.T.Elem.number (get_or c.args.cells.now i x))) all)
