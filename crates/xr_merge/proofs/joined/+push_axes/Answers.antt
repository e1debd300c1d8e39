use Rattle.std.proofs.Common.{◌∷◌, [], ◌++◌, ◌∙◌, map, refl, ap}
use Rattle.xr_defs.specs.Values.{Dataset as TheSet}
use Rattle.xr_values.specs.Stands.{dataset_in}
use Rattle.xr_values.specs.declared.dataset.Dataset.{Dataset}
use Rattle.xr_joint.proofs.Firsts.{mapped_one, on_ok, one_behind}
use Rattle.xr_merge.proofs.joined.+push_axes.Goals as goal

pub returns-in_ok-push-in-len1-up-clause-axes : goal.returns-in_ok-push-in-len1-up-clause-axes
returns-in_ok-push-in-len1-up-clause-axes t c = λ nodes.
    on_ok c.push_axes.result
    (one_behind (λ ss. map (λ (s : TheSet). s.axes) (map (dataset_in nodes) ss)) (λ (s : Dataset). s.axes ∷ []) (λ s ss. refl) (map (λ v. v.now) c.args.out.now) (map (λ v. v.now) c.push.new.self) (map (λ v. v.now) c.push_axes.new.out) c.args.sets.now c.set-item.result
    c.in-len1-up.len_at_least c.set-item.is (mapped_one (λ v. v.now) c.args.out.now c.push.new.self c.as_slice-axes.result c.in_ok-push-in-len1-up.ensures.ok ∙ ap (λ xs. map (λ v. v.now) c.args.out.now ++ xs ∷ []) c.as_slice-axes.ensures))
    (c.push_axes.ensures.axes nodes)
