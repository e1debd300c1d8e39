use Rattle.std.proofs.Common.{◌∷◌, [], ◌++◌, ◌∙◌, map, refl, ap}
use Rattle.xr_aligning.proofs.Loops.{all_hold, holds_here, more, one_mapped}
use Rattle.xr_values.specs.Meaning.{meaning, IsValueIn}
use Rattle.xr_values.specs.Stands.{dataset_in}
use Rattle.xr_joint.specs.Fitting.{HasFrame, IsOpenIn}
use Rattle.xr_concat.specs.Named.{called}
use Rattle.xr_concat.proofs.sets.push_called.Goals as goal

pub loop-value-preserved : goal.loop-value-preserved
loop-value-preserved c =
    let values = c.args.values.now in
    let i = c.loop-value.value-index in
    let value = c.value-item.result in
    let here = c.loop-value-test.true in
    let out = c.loop-value.out in
    let next = c.push.new.self in
    let set = c.in_ok-set.set in
    let pushed = c.in_ok-push.ensures.ok in
    let so_far = c.loop-value.invariant in
    record {
      are = λ nodes.
          more values i value here c.value-item.is (λ vs. map called (map (meaning nodes) vs)) (λ v. called (meaning nodes v) ∷ []) (λ v vs. refl) (map (dataset_in nodes) c.args.out.now ++ map called (map (meaning nodes) values)) (map (dataset_in nodes) out) (map (dataset_in nodes) next)
          (one_mapped out next set pushed (dataset_in nodes) ∙ ap (λ s. map (dataset_in nodes) out ++ s ∷ []) (c.in_ok-set.ensures.is nodes)) (so_far.are nodes);
      opened = λ nodes inside all. all_hold out next set pushed (IsOpenIn nodes) (so_far.opened nodes inside all) (c.in_ok-set.ensures.opened nodes (holds_here values i value here c.value-item.is (IsValueIn nodes) inside));
      frames = λ nodes inside all. all_hold out next set pushed HasFrame (so_far.frames nodes inside all) (c.in_ok-set.ensures.frame nodes (holds_here values i value here c.value-item.is (IsValueIn nodes) inside));
    }
