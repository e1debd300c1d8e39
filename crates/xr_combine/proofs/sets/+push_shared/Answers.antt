use Rattle.std.proofs.Common.{◌∷◌, [], ◌++◌, ◌∙◌, map, refl, ap}
use Rattle.xr_combination.specs.Pieces.{as_dataset}
use Rattle.xr_values.specs.Meaning.{meaning}
use Rattle.xr_joint.proofs.Firsts.{on_ok, one_behind}
use Rattle.xr_combine.specs.Sets.{sets_in}
use Rattle.xr_combine.proofs.Kept.{sets_one}
use Rattle.xr_combine.proofs.sets.+push_shared.Goals as goal

pub returns-in_ok-push-in-len1-up-clause-are : goal.returns-in_ok-push-in-len1-up-clause-are
returns-in_ok-push-in-len1-up-clause-are t c = λ nodes.
    on_ok c.push_shared.result
    (one_behind (λ vs. map as_dataset (map (meaning nodes) vs)) (λ v. as_dataset (meaning nodes v) ∷ []) (λ v vs. refl) (sets_in nodes c.args.out.now) (sets_in nodes c.push.new.self) (sets_in nodes c.push_shared.new.out) c.args.values.now c.value-item.result
    c.in-len1-up.len_at_least c.value-item.is (sets_one nodes c.args.out.now c.push.new.self c.in_ok-set-in-len1-up.set c.in_ok-push-in-len1-up.ensures.ok ∙ ap (λ s. sets_in nodes c.args.out.now ++ s ∷ []) (c.in_ok-set-in-len1-up.ensures.is nodes)))
    (c.push_shared.ensures.are nodes)
