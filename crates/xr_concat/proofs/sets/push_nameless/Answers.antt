use Rattle.std.proofs.Common.{◌∷◌, [], ◌++◌, ◌∙◌, map, refl, ap}
use Rattle.xr_aligning.proofs.Loops.{all_hold, holds_here, more, one_mapped}
use Rattle.xr_values.specs.Stands.{dataset_in}
use Rattle.xr_concat.specs.Named.{nameless, IsHeldIn}
use Rattle.xr_concat.proofs.sets.push_nameless.Goals as goal

pub loop-set-preserved : goal.loop-set-preserved
loop-set-preserved c =
    let sets = c.args.sets.now in
    let i = c.loop-set.set-index in
    let set = c.set-item.result in
    let here = c.loop-set-test.true in
    let out = c.loop-set.out in
    let next = c.push.new.self in
    let one = c.in_ok-one.one in
    let pushed = c.in_ok-push.ensures.ok in
    let so_far = c.loop-set.invariant in
    record {
      are = λ nodes.
          more sets i set here c.set-item.is (λ ss. map nameless (map (dataset_in nodes) ss)) (λ s. nameless (dataset_in nodes s) ∷ []) (λ s ss. refl) (map (dataset_in nodes) c.args.out.now ++ map nameless (map (dataset_in nodes) sets)) (map (dataset_in nodes) out) (map (dataset_in nodes) next)
          (one_mapped out next one pushed (dataset_in nodes) ∙ ap (λ s. map (dataset_in nodes) out ++ s ∷ []) (c.in_ok-one.ensures.is nodes)) (so_far.are nodes);
      held = λ nodes held all. all_hold out next one pushed (IsHeldIn nodes) (so_far.held nodes held all) (c.in_ok-one.ensures.held nodes (holds_here sets i set here c.set-item.is (IsHeldIn nodes) held));
    }
