use Rattle.std.proofs.Common.{ap, ◌∙◌}
use Rattle.xr_types.specs.Results.{Answers}
use Rattle.xr_times.specs.Counts.{written_unit}
use Rattle.xr_defs.specs.Encoding.{stored_labels}
use Rattle.xr_encode.specs.Outlines.{outline_of}
use Rattle.xr_encode.specs.Walk.{var_checked}
use Rattle.xr_encode.proofs.Counted.{counts_seen, stored_counts}
use Rattle.xr_encode.proofs.held.index_var.Goals as goal

pub run_var-requires-clause-seen : goal.run_var-requires-clause-seen
run_var-requires-clause-seen c = counts_seen _ _ _

pub returns-in-Times : goal.returns-in-Times
returns-in-Times c =
    let name = c.args.name.now in
    let list = c.args.labels.now.list in
    let run = c.counted-run.result in
    let unit = c.counted-run.ensures.unit ∙ ap (written_unit c.in-Times.coding.units) c.as_slice-in-Times.ensures in
    let outline = c.in_ok-outline.ensures ∙ ap (λ attrs. outline_of (stored_labels name attrs list)) c.as_slice.ensures in
    stored_counts (λ s. Answers (λ v. v) c.run_var.result (var_checked c.args.small c.args.dims.now c.args.options.now s)) name c.args.labels.now.attrs c.in-Times.coding c.in-Times.times list c.in_ok-outline.outline run.units.unit run.units.reference run.times.now
    c.in-Times.is outline unit c.counted-run.ensures.reference (c.counted-run.ensures.times ∙ c.as_slice-in-Times.ensures) c.run_var.ensures
