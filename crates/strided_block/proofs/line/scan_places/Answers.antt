use Rattle.std.proofs.Common.{get_or, ap, ◌∙◌}
use Rattle.std.specs.Prelude.{Some, None}
use Rattle.strided_block.specs.Steps.{spot_on}
use Rattle.strided_block.proofs.Lines.{next_last, next_cells, next_changes}
use Rattle.strided_block.proofs.line.scan_places.Goals as goal

pub loop-j-preserved : goal.loop-j-preserved
loop-j-preserved g c =
    let cs = c.loop-j.all.slots in let ds = c.put_cell.new.cells.slots in let first = c.args.to.first in let step = c.args.to.step in let n = c.loop-j.j in let v = c.next_result-last.result in
    let a = c.args.a.now.slots in let b = c.args.b.now.slots in
    record {
      block = c.put_cell.ensures.block ∙ c.loop-j.invariant.block;
      last = next_last cs ds first step n c.requires.apart c.put_cell.ensures.others v c.put_cell.ensures.cell (Some c.args.start);
      cells = next_cells cs ds first step n c.requires.apart c.put_cell.ensures.others v c.put_cell.ensures.cell (goal.F-post g c.args.f.now) (Some c.args.start)
          (λ j. get_or a (spot_on c.args.from_a.first c.args.from_a.step j) None) (λ j. get_or b (spot_on c.args.from_b.first c.args.from_b.step j) None) c.loop-j.last c.loop-j.invariant.last c.loop-j.invariant.cells
          (c.requires.first n c.loop-j-test.true) (c.requires.second n c.loop-j-test.true)
          (λ x y ea eb. c.next_result-last.ensures x y (ap (λ k. get_or a k None) c.spot.ensures ∙ ea) (ap (λ k. get_or b k None) c.spot-in-loop-j.ensures ∙ eb));
      others = next_changes cs ds first step n c.requires.apart c.put_cell.ensures.others c.args.all.now.slots c.loop-j.invariant.others;
    }
