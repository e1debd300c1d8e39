use Rattle.std.proofs.Common.{◌-◌, get_or, ap, ◌∙◌, pos, w64, FitsSigned, rules}
use Rattle.std.proofs.lemmas.Int.{to_z-of_z}
use Rattle.xr_times.specs.Bins.{bin_number}
use Rattle.cf_time.proofs.Mapped.{one_more}
use Rattle.cf_time.proofs.binning.places.Goals as goal

pub loop-label-preserved : goal.loop-label-preserved
loop-label-preserved c =
    let label = get_or c.args.labels.now c.loop-label.label-index (pos 0) in
    let fits : FitsSigned w64 label = search rules in
    let is = simp to_z-of_z at (c.place.ensures ∙ ap (λ n. n - c.args.low) c.next_run-run.ensures.number) in
    record {
      places = rw c.in_ok-push.ensures.items (one_more (λ t. bin_number c.args.calendar c.args.freq c.args.midnight t - c.args.low) c.args.labels.now _ c.loop-label.label-index _ (pos 0) c.loop-label-test.true is c.loop-label.invariant.places);
      run = c.next_run-run.ensures.run;
      bin = c.next_run-run.ensures.bin;
    }
