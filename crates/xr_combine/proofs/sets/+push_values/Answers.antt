use Rattle.std.proofs.Common.{◌∷◌, [], ◌++◌, ◌∙◌, map, refl, ap}
use Rattle.std.specs.declared.alloc.Global.{Global}
use Rattle.std.specs.declared.rc.Rc.{Rc}
use Rattle.xr_defs.specs.Meanings as of
use Rattle.xr_values.specs.Meaning.{meaning}
use Rattle.xr_values.specs.Stands.{dataset_in}
use Rattle.xr_values.specs.declared.dataset.Dataset.{Dataset}
use Rattle.xr_joint.proofs.Firsts.{mapped_one, on_ok, one_behind}
use Rattle.xr_combine.specs.Sets.{sets_in}
use Rattle.xr_combine.proofs.sets.+push_values.Goals as goal

pub returns-in_ok-push-in-len1-up-clause-mean : goal.returns-in_ok-push-in-len1-up-clause-mean
returns-in_ok-push-in-len1-up-clause-mean t c = λ nodes.
    on_ok c.push_values.result
    (one_behind (λ ss. map of.Set (sets_in nodes ss)) (λ (s : Rc Dataset Global). of.Set (dataset_in nodes s.value) ∷ []) (λ s ss. refl) (map (meaning nodes) c.args.out.now) (map (meaning nodes) c.push.new.self) (map (meaning nodes) c.push_values.new.out) c.args.sets.now
    c.set-item.result c.in-len1-up.len_at_least c.set-item.is (mapped_one (meaning nodes) c.args.out.now c.push.new.self c.in_ok-value-in-len1-up.value c.in_ok-push-in-len1-up.ensures.ok ∙ ap (λ m. map (meaning nodes) c.args.out.now ++ m ∷ []) (c.in_ok-value-in-len1-up.ensures.means nodes)))
    (c.push_values.ensures.mean nodes)
