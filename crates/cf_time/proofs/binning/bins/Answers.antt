use Rattle.std.proofs.Common.{◌≡◌, true, arith, ◌∙◌, sym}
use Rattle.xr_times.specs.Bins.{rises}
use Rattle.cf_time.proofs.Binned.{few}
use Rattle.cf_time.proofs.binning.bins.Goals as goal

pub places-requires-clause-few : goal.places-requires-clause-few
places-requires-clause-few c k d s =
    let up : rises c.args.labels.now ≡ true = sym c.rises.ensures ∙ c.if-not-rises.false in
    few c.args.calendar c.args.freq c.args.labels.now c.reach-ends.result.midnight c.reach-ends.result.low c.reach-ends.result.count k d c.requires.freq up c.reach-ends.ensures.midnight c.reach-ends.ensures.low c.reach-ends.ensures.count (omega (arith, c.if-ends-gt33554432.false)) (c.requires.times k d s) s
