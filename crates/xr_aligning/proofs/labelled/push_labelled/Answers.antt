use Rattle.xr_aligning.proofs.Common.{IsLabelledIn, IsValueIn, [], all_of, ap, check_labelled, labelled_in, map, meaning, refl, sym, ◌++◌, ◌∙◌, ◌∷◌}
use Rattle.xr_aligning.proofs.Loops.{all_hold, holds_here, more, one_mapped, passed}
use Rattle.xr_aligning.proofs.labelled.push_labelled.Goals as goal

pub loop-value-preserved : goal.loop-value-preserved
loop-value-preserved c =
    let values = c.args.values.now in
    let i = c.loop-value.value-index in
    let value = c.value-item.result in
    let here = c.loop-value-test.true in
    let out = c.loop-value.out in
    let next = c.push.new.self in
    let one = c.in_ok-one.one in
    let pushed = c.in_ok-push.ensures.ok in
    let so_far = c.loop-value.invariant in
    record {
      checks = λ nodes.
          passed values i value here c.value-item.is (λ vs. all_of check_labelled (map (meaning nodes) vs)) (λ v. check_labelled (meaning nodes v)) (λ v vs. refl) (all_of check_labelled (map (meaning nodes) values)) (c.in_ok-one.ensures.told nodes) (so_far.checks nodes);
      means = λ nodes.
          more values i value here c.value-item.is (map (meaning nodes)) (λ v. meaning nodes v ∷ []) (λ v vs. refl) (map (labelled_in nodes) c.args.out.now ++ map (meaning nodes) values) (map (labelled_in nodes) out) (map (labelled_in nodes) next)
          (one_mapped out next one pushed (labelled_in nodes) ∙ ap (λ v. map (labelled_in nodes) out ++ v ∷ []) (sym (c.in_ok-one.ensures.means nodes))) (so_far.means nodes);
      inside = λ nodes all before. all_hold out next one pushed (IsLabelledIn nodes) (so_far.inside nodes all before) (c.in_ok-one.ensures.inside nodes (holds_here values i value here c.value-item.is (IsValueIn nodes) all));
    }
