use Rattle.std.proofs.Common.{w64, FitsSigned, rules, ap, ◌∙◌}
use Rattle.std.proofs.lemmas.Int.{to_z-of_z}
use Rattle.xr_times.specs.Counts.{are_counts}
use Rattle.xr_encode.proofs.Counted.{written_whole}
use Rattle.xr_encode.proofs.counts.counted.Goals as goal

pub invariant_of-result : goal.invariant_of-result
invariant_of-result c =
    let reference = c.args.units.reference in
    let ts = c.args.times.now in
    let fits : FitsSigned w64 c.args.units.reference = search rules in
    record {
      whole =
          ap (λ r. are_counts c.written_unit-unit.result r ts) (to_z-of_z w64 c.args.units.reference fits)
          ∙ ap (λ u. are_counts u reference ts) c.written_unit-unit.ensures ∙ written_whole c.args.units ts;
    }
