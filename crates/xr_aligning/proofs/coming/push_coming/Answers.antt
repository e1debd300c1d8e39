use Rattle.xr_aligning.proofs.Common.{Comes, Coming, IsLabelledIn, TakesLabels, [], ap, map, refl, ◌++◌, ◌∙◌, ◌∷◌}
use Rattle.xr_aligning.proofs.Loops.{all_hold, holds_here, more, one_mapped}
use Rattle.xr_aligning.proofs.coming.push_coming.Goals as goal

pub loop-value-preserved : goal.loop-value-preserved
loop-value-preserved c =
    let values = c.args.values.now in
    let i = c.loop-value.value-index in
    let value = c.value-item.result in
    let here = c.loop-value-test.true in
    let out = c.loop-value.out in
    let next = c.push.new.self in
    let one = c.in_ok-one.one in
    let pushed = c.in_ok-push.ensures.ok in
    let so_far = c.loop-value.invariant in
    record {
      on =
          more values i value here c.value-item.is (λ vs. vs) (λ v. v ∷ []) (λ v vs. refl) (map (λ (m : Coming). m.on) c.args.out.now ++ values) (map (λ (m : Coming). m.on) out) (map (λ (m : Coming). m.on) next)
          (one_mapped out next one pushed (λ (m : Coming). m.on) ∙ ap (λ v. map (λ (m : Coming). m.on) out ++ v ∷ []) c.in_ok-one.ensures.on) so_far.on;
      labels = λ before. all_hold out next one pushed (TakesLabels c.args.joined.now) (so_far.labels before) c.in_ok-one.ensures.labels;
      comes = λ nodes all before. all_hold out next one pushed Comes (so_far.comes nodes all before) (c.in_ok-one.ensures.comes nodes (holds_here values i value here c.value-item.is (IsLabelledIn nodes) all));
    }
