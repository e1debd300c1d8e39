use Rattle.std.proofs.Common.{◌≡◌, get_or, pos, w64, to_z, of_z, FitsSigned, ◌∙◌, rules}
use Rattle.std.proofs.lemmas.Int.{to_z-of_z}
use Rattle.xr_times.specs.Times.{field_of}
use Rattle.cf_time.proofs.Mapped.{one_more}
use Rattle.cf_time.proofs.each_field.by_label.Goals as goal

pub loop-label-preserved : goal.loop-label-preserved
loop-label-preserved c =
    let label = get_or c.args.labels.now c.loop-label.label-index (pos 0) in
    let fits : FitsSigned w64 label = search rules in
    let value : FitsSigned w64 c.field.result = search rules in
    let same : to_z w64 (of_z w64 c.field.result) ≡ c.field.result = simp to_z-of_z in
    let is = simp to_z-of_z at c.field.ensures in
    rw c.in_ok-push.ensures.items (one_more (λ t. pos (field_of c.args.calendar t c.args.part)) c.args.labels.now _ c.loop-label.label-index _ (pos 0) c.loop-label-test.true (same ∙ is) c.loop-label.invariant)
