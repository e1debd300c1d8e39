use Rattle.std.proofs.Common.{◌≡◌, ◌<◌, length, take, drop, sym, ap, subst, ◌∙◌, arith}
use Rattle.std.specs.Prelude.{Some}
use Rattle.xr_types.specs.Points.{size, place}
use Rattle.strided_block.specs.Parts.{IsRun, InRun, Changes}
use Rattle.strided_block.specs.Steps.{spot}
use Rattle.strided_block.specs.Zips.{point_at}
use Rattle.strided_block.proofs.Boxes.{place_below}
use Rattle.strided_block.proofs.Splits.{counts, part_is, none_there, lead_long}
use Rattle.strided_block.proofs.Zipped.{row_run, row_changes, one_more, lead_below}
use Rattle.strided_block.proofs.zip.fill_rows.Goals as goal

pub returns-then-count-eq0-clause-cells : goal.returns-then-count-eq0-clause-cells
returns-then-count-eq0-clause-cells g c = λ p i. none_there c.args.shape.now p c.args.axis c.points-count.result (part_is _ _ _ _ (drop c.args.axis) c.points-count.ensures c.split_at.ensures.back c.as_slice.ensures.value) c.if-count-eq0.true i

pub point_of-lead-requires-clause-small : goal.point_of-lead-requires-clause-small
point_of-lead-requires-clause-small g c =
    let s = c.args.shape.now in let k = c.args.axis in
    let n = part_is _ _ _ _ (drop k) c.points-count.ensures c.split_at.ensures.back c.as_slice.ensures.value in let r = part_is _ _ _ _ (take k) c.points-rows.ensures c.split_at.ensures.front c.as_slice.ensures.value in let not_none = c.if-count-eq0.false in
    let all = counts s k c.points-count.result c.loop-row.row n (omega arith) (omega (arith, c.loop-row-test.true)) c.requires.small in
    let e = ap size (c.split_at.ensures.front ∙ ap (take k) c.as_slice.ensures.value) in omega (arith, all.small)

pub fill_run-requires : goal.fill_run-requires
fill_run-requires g c =
    let s = c.args.shape.now in let k = c.args.axis in let row = c.loop-row.row in let lead = c.point_of-lead.result in let at = c.spot_of-at.result in let begun = c.args.all.now.slots in let now = c.loop-row.all.slots in
    let n = part_is _ _ _ _ (drop k) c.points-count.ensures c.split_at.ensures.back c.as_slice.ensures.value in let r = part_is _ _ _ _ (take k) c.points-rows.ensures c.split_at.ensures.front c.as_slice.ensures.value in let not_none = c.if-count-eq0.false in
    let all = counts s k c.points-count.result row n (omega arith) (omega (arith, c.loop-row-test.true)) c.requires.small in
    let outer : c.split_at.result.0.now ≡ take k s = c.split_at.ensures.front ∙ ap (take k) c.as_slice.ensures.value in let exact = all.count in
    let some : 0 < size (drop k s) = omega arith in
    let is : lead ≡ point_at (take k s) row = c.point_of-lead.ensures.value ∙ ap (λ t. point_at t row) outer in
    let long : length lead ≡ k = lead_long s k row lead is c.requires.axis in
    let where_at : at ≡ spot c.args.start c.args.steps.now lead = c.spot_of-at.ensures ∙ (λ i. spot c.args.start (c.as_slice-in-loop-row.ensures.value i) (c.as_slice-in-loop-row-2.ensures.value i)) in
    let count : size (drop (length lead) s) ≡ c.points-count.result = ap (λ m. size (drop m s)) long ∙ sym exact in
    (c.requires.base ∙ sym c.loop-row.invariant.block, subst (IsRun now at) count (row_run s k row c.args.start c.args.steps.now begun now c.requires.laid.0 c.requires.laid.1 c.requires.axis all.inside some lead is at where_at c.loop-row.invariant.others))

pub loop-row-preserved : goal.loop-row-preserved
loop-row-preserved g c =
    let s = c.args.shape.now in let k = c.args.axis in let row = c.loop-row.row in let lead = c.point_of-lead.result in let at = c.spot_of-at.result in let begun = c.args.all.now.slots in let now = c.loop-row.all.slots in
    let n = part_is _ _ _ _ (drop k) c.points-count.ensures c.split_at.ensures.back c.as_slice.ensures.value in let r = part_is _ _ _ _ (take k) c.points-rows.ensures c.split_at.ensures.front c.as_slice.ensures.value in let not_none = c.if-count-eq0.false in
    let all = counts s k c.points-count.result row n (omega arith) (omega (arith, c.loop-row-test.true)) c.requires.small in
    let outer : c.split_at.result.0.now ≡ take k s = c.split_at.ensures.front ∙ ap (take k) c.as_slice.ensures.value in let exact = all.count in
    let some : 0 < size (drop k s) = omega arith in
    let is : lead ≡ point_at (take k s) row = c.point_of-lead.ensures.value ∙ ap (λ t. point_at t row) outer in
    let long : length lead ≡ k = lead_long s k row lead is c.requires.axis in
    let where_at : at ≡ spot c.args.start c.args.steps.now lead = c.spot_of-at.ensures ∙ (λ i. spot c.args.start (c.as_slice-in-loop-row.ensures.value i) (c.as_slice-in-loop-row-2.ensures.value i)) in
    let count : size (drop (length lead) s) ≡ c.points-count.result = ap (λ m. size (drop m s)) long ∙ sym exact in
    let changes : Changes now c.fill_run.new.cells.slots (InRun at (size (drop (length lead) s))) = subst (λ m. Changes now c.fill_run.new.cells.slots (InRun at m)) (sym count) c.fill_run.ensures.others in
    record {
      block = c.fill_run.ensures.block ∙ c.loop-row.invariant.block;
      others = row_changes s k row c.args.start c.args.steps.now begun now c.requires.laid.0 c.requires.laid.1 c.requires.axis all.inside some lead is at where_at c.fill_run.new.cells.slots changes c.loop-row.invariant.others;
      cells = one_more s k row c.args.start c.args.steps.now begun now c.requires.laid.0 c.requires.laid.1 c.requires.axis all.inside some lead is at where_at c.fill_run.new.cells.slots changes (λ p o. o ≡ Some c.args.item) c.loop-row.invariant.cells (λ q j. let near = place_below (drop (length lead) s) q j in c.fill_run.ensures.cells (place (drop (length lead) s) q) (omega arith));
    }

pub returns-clause-cells : goal.returns-clause-cells
returns-clause-cells g c = λ p i. c.loop-row.invariant.cells p i (let b = lead_below c.args.shape.now p c.args.axis c.points-rows.result i c.requires.small (part_is _ _ _ _ (take c.args.axis) c.points-rows.ensures c.split_at.ensures.front c.as_slice.ensures.value) in omega (arith, c.loop-row-test.false))
