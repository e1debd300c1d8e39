use Rattle.std.proofs.Common.{◌∷◌, [], ◌++◌, ◌∙◌, map, refl, ap}
use Rattle.xr_combination.specs.Concat.{other_axes}
use Rattle.xr_values.specs.Stands.{dataset_in}
use Rattle.xr_stacking.proofs.Loops.{more}
use Rattle.xr_stacking.proofs.axes.push_all_others.Goals as goal

pub loop-set-preserved : goal.loop-set-preserved
loop-set-preserved c = λ nodes.
    more c.args.sets.now c.loop-set.set-index c.set-item.result c.loop-set-test.true c.set-item.is (λ ss. map (other_axes c.args.dim.now) (map (dataset_in nodes) ss)) (λ s. other_axes c.args.dim.now (dataset_in nodes s) ∷ []) (λ s ss. refl)
    (c.args.out.now ++ map (other_axes c.args.dim.now) (map (dataset_in nodes) c.args.sets.now)) c.loop-set.out c.push.new.self (c.in_ok-push.ensures.ok ∙ ap (λ xs. c.loop-set.out ++ xs ∷ []) (c.in_ok-axes.ensures nodes)) (c.loop-set.invariant nodes)
