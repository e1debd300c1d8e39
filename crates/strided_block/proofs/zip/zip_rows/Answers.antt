use Rattle.std.proofs.Common.{◌≡◌, ◌<◌, length, take, drop, sym, ap, ◌∙◌, arith}
use Rattle.xr_types.specs.Points.{size}
use Rattle.strided_block.specs.Parts.{InRun, Changes}
use Rattle.strided_block.specs.Steps.{spot}
use Rattle.strided_block.specs.Views.{shown}
use Rattle.strided_block.specs.Zips.{Zips, point_at}
use Rattle.strided_block.proofs.Splits.{counts, part_is, none_there, lead_there, lead_long}
use Rattle.strided_block.proofs.Zipped.{row_run, row_changes, one_more, lead_below}
use Rattle.strided_block.proofs.zip.zip_rows.Goals as goal

pub returns-then-points-eq0-clause-cells : goal.returns-then-points-eq0-clause-cells
returns-then-points-eq0-clause-cells g c = λ p i. none_there c.args.a.now.shape p c.args.axis c.points.result (part_is _ _ _ _ (drop c.args.axis) c.points.ensures c.split_at.ensures.back (c.as_slice.ensures.value ∙ c.shape.ensures)) c.if-points-eq0.true i

pub point_of-lead-requires-clause-small : goal.point_of-lead-requires-clause-small
point_of-lead-requires-clause-small g c =
    let s = c.args.a.now.shape in let k = c.args.axis in
    let n = part_is _ _ _ _ (drop k) c.points.ensures c.split_at.ensures.back (c.as_slice.ensures.value ∙ c.shape.ensures) in let r = part_is _ _ _ _ (take k) c.points-rows.ensures c.split_at.ensures.front (c.as_slice.ensures.value ∙ c.shape.ensures) in let not_none = c.if-points-eq0.false in
    let all = counts s k c.points.result c.loop-row.row n (omega arith) (omega (arith, c.loop-row-test.true)) c.requires.small in
    let e = ap size (c.split_at.ensures.front ∙ ap (take k) (c.as_slice.ensures.value ∙ c.shape.ensures)) in omega (arith, all.small)

pub zip_lead-requires-clause-lead : goal.zip_lead-requires-clause-lead
zip_lead-requires-clause-lead g c =
    let s = c.args.a.now.shape in let k = c.args.axis in let row = c.loop-row.row in let lead = c.point_of-lead.result in let at = c.spot_of-at.result in let begun = c.args.all.now.slots in let now = c.loop-row.all.slots in
    let n = part_is _ _ _ _ (drop k) c.points.ensures c.split_at.ensures.back (c.as_slice.ensures.value ∙ c.shape.ensures) in let r = part_is _ _ _ _ (take k) c.points-rows.ensures c.split_at.ensures.front (c.as_slice.ensures.value ∙ c.shape.ensures) in let not_none = c.if-points-eq0.false in
    let all = counts s k c.points.result row n (omega arith) (omega (arith, c.loop-row-test.true)) c.requires.small in
    let outer : c.split_at.result.0.now ≡ take k s = c.split_at.ensures.front ∙ ap (take k) (c.as_slice.ensures.value ∙ c.shape.ensures) in let exact = all.count in
    let some : 0 < size (drop k s) = omega arith in
    let is : lead ≡ point_at (take k s) row = c.point_of-lead.ensures.value ∙ ap (λ t. point_at t row) outer in
    let long : length lead ≡ k = lead_long s k row lead is c.requires.axis.0 in
    let where_at : at ≡ spot c.args.start c.args.steps.now lead = c.spot_of-at.ensures ∙ (λ i. spot c.args.start (c.as_slice-in-loop-row.ensures.value i) (c.as_slice-in-loop-row-2.ensures.value i)) in
    lead_there s k row lead all.inside is c.requires.axis.0

pub zip_lead-requires-clause-room : goal.zip_lead-requires-clause-room
zip_lead-requires-clause-room g c =
    let s = c.args.a.now.shape in let k = c.args.axis in let row = c.loop-row.row in let lead = c.point_of-lead.result in let at = c.spot_of-at.result in let begun = c.args.all.now.slots in let now = c.loop-row.all.slots in
    let n = part_is _ _ _ _ (drop k) c.points.ensures c.split_at.ensures.back (c.as_slice.ensures.value ∙ c.shape.ensures) in let r = part_is _ _ _ _ (take k) c.points-rows.ensures c.split_at.ensures.front (c.as_slice.ensures.value ∙ c.shape.ensures) in let not_none = c.if-points-eq0.false in
    let all = counts s k c.points.result row n (omega arith) (omega (arith, c.loop-row-test.true)) c.requires.small in
    let outer : c.split_at.result.0.now ≡ take k s = c.split_at.ensures.front ∙ ap (take k) (c.as_slice.ensures.value ∙ c.shape.ensures) in let exact = all.count in
    let some : 0 < size (drop k s) = omega arith in
    let is : lead ≡ point_at (take k s) row = c.point_of-lead.ensures.value ∙ ap (λ t. point_at t row) outer in
    let long : length lead ≡ k = lead_long s k row lead is c.requires.axis.0 in
    let where_at : at ≡ spot c.args.start c.args.steps.now lead = c.spot_of-at.ensures ∙ (λ i. spot c.args.start (c.as_slice-in-loop-row.ensures.value i) (c.as_slice-in-loop-row-2.ensures.value i)) in
    (c.requires.base ∙ sym c.loop-row.invariant.block, row_run s k row c.args.start c.args.steps.now begun now c.requires.laid.0 c.requires.laid.1 c.requires.axis.0 all.inside some lead is at where_at c.loop-row.invariant.others)

pub loop-row-preserved : goal.loop-row-preserved
loop-row-preserved g c =
    let s = c.args.a.now.shape in let k = c.args.axis in let row = c.loop-row.row in let lead = c.point_of-lead.result in let at = c.spot_of-at.result in let begun = c.args.all.now.slots in let now = c.loop-row.all.slots in
    let n = part_is _ _ _ _ (drop k) c.points.ensures c.split_at.ensures.back (c.as_slice.ensures.value ∙ c.shape.ensures) in let r = part_is _ _ _ _ (take k) c.points-rows.ensures c.split_at.ensures.front (c.as_slice.ensures.value ∙ c.shape.ensures) in let not_none = c.if-points-eq0.false in
    let all = counts s k c.points.result row n (omega arith) (omega (arith, c.loop-row-test.true)) c.requires.small in
    let outer : c.split_at.result.0.now ≡ take k s = c.split_at.ensures.front ∙ ap (take k) (c.as_slice.ensures.value ∙ c.shape.ensures) in let exact = all.count in
    let some : 0 < size (drop k s) = omega arith in
    let is : lead ≡ point_at (take k s) row = c.point_of-lead.ensures.value ∙ ap (λ t. point_at t row) outer in
    let long : length lead ≡ k = lead_long s k row lead is c.requires.axis.0 in
    let where_at : at ≡ spot c.args.start c.args.steps.now lead = c.spot_of-at.ensures ∙ (λ i. spot c.args.start (c.as_slice-in-loop-row.ensures.value i) (c.as_slice-in-loop-row-2.ensures.value i)) in
    let changes : Changes now c.zip_lead.new.all.slots (InRun at (size (drop (length lead) s))) = c.zip_lead.ensures.others in
    record {
      block = c.zip_lead.ensures.block ∙ c.loop-row.invariant.block;
      others = row_changes s k row c.args.start c.args.steps.now begun now c.requires.laid.0 c.requires.laid.1 c.requires.axis.0 all.inside some lead is at where_at c.zip_lead.new.all.slots changes c.loop-row.invariant.others;
      cells = one_more s k row c.args.start c.args.steps.now begun now c.requires.laid.0 c.requires.laid.1 c.requires.axis.0 all.inside some lead is at where_at c.zip_lead.new.all.slots changes (λ p o. Zips (goal.F-post g c.args.f.now) (shown c.args.a.now p) (shown c.args.b.now p) (shown c.args.c.now p) (shown c.args.d.now p) o) c.loop-row.invariant.cells c.zip_lead.ensures.cells;
    }

pub returns-clause-cells : goal.returns-clause-cells
returns-clause-cells g c = λ p i. c.loop-row.invariant.cells p i (let b = lead_below c.args.a.now.shape p c.args.axis c.points-rows.result i c.requires.small (part_is _ _ _ _ (take c.args.axis) c.points-rows.ensures c.split_at.ensures.front (c.as_slice.ensures.value ∙ c.shape.ensures)) in omega (arith, c.loop-row-test.false))
