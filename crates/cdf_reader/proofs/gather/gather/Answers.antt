use Rattle.std.proofs.Common.{◌≤◌, map, ap, ◌∙◌, arith}
use Rattle.std.proofs.lemmas.Result.{IfOk-weaker}
use Rattle.std.proofs.lemmas.List.Elements.{All-same, All-weaker}
use Rattle.cdf_reader.specs.declared.strips.Strip.{Strip}
use Rattle.cdf_reader.specs.Strips.{strip_values}
use Rattle.cdf_reader.specs.Gathered.{strip_of}
use Rattle.cdf_reader.proofs.Columns.{all_full, of_strips}
use Rattle.cdf_reader.proofs.gather.gather.Goals as goal

pub returns : goal.returns
returns c =
    let bytes = c.args.bytes.now in
    let step = c.args.step in
    let columns = c.loop-from.columns.items in
    let P : Strip → Type 0 = λ s. s.count ≤ c.loop-from.from in
    let bound = All-same P (map strip_of columns) c.args.strips.now c.loop-from.invariant.strips
    (All-weaker (λ (s : Strip). s.count ≤ c.most_records-records.result) P (λ s le. omega (arith, le, c.loop-from-test.false)) c.args.strips.now c.most_records-records.ensures) in
    IfOk-weaker c.all_values.result _ _ (λ raws is. is step (all_full bytes step c.loop-from.from columns bound c.loop-from.invariant.held)
    ∙ of_strips (strip_values bytes step) columns
    ∙ ap (map (strip_values bytes step)) c.loop-from.invariant.strips) c.all_values.ensures
