use Rattle.std.proofs.Common.{◌∷◌, ◌++◌, ◌∙◌, [], ap, subst, sym, take}
use Rattle.std.proofs.lemmas.List.{take_all, take_more}
use Rattle.plan_core.proofs.Plans.{grows_by_none, grows_on}
use Rattle.xr_aligning.proofs.Loops.{holds_here}
use Rattle.xr_joint.specs.Fitting.{AreFittedSets, IsOpenIn}
use Rattle.xr_joint.proofs.Kept.{none_fitted, one_fitted, open_kept}
use Rattle.xr_joint.proofs.fitting.push_fitted.Goals as goal

pub loop-set-init : goal.loop-set-init
loop-set-init c = record { fitted = none_fitted c.args.joined.now c.args.fill c.args.plan.now c.args.out.now; grows = grows_by_none c.args.plan.now }

pub fitted-requires : goal.fitted-requires
fitted-requires c =
    open_kept c.args.plan.now c.loop-set.plan c.loop-set.invariant.grows c.set-item.result (holds_here c.args.sets.now c.loop-set.set-index c.set-item.result c.loop-set-test.true c.set-item.is (IsOpenIn c.args.plan.now) c.requires)

pub loop-set-preserved : goal.loop-set-preserved
loop-set-preserved c =
    let old = c.args.plan.now in
    let sets = c.args.sets.now in
    let i = c.loop-set.set-index in
    let set = c.set-item.result in
    let here = c.loop-set-test.true in
    let so_far = c.loop-set.invariant in
    record {
      fitted =
          subst (λ ss. AreFittedSets old c.fitted.new.plan c.args.joined.now c.args.fill ss c.args.out.now c.push.new.self) (sym (take_more sets i set here ∙ ap (λ s. take i sets ++ s ∷ []) (sym c.set-item.is)))
          (one_fitted c.args.joined.now c.args.fill old c.loop-set.plan c.fitted.new.plan (take i sets) set c.in_ok-one.one c.args.out.now c.loop-set.out c.push.new.self
          so_far.grows c.fitted.ensures.grows (holds_here sets i set here c.set-item.is (IsOpenIn old) c.requires) c.in_ok-one.ensures.fitted c.in_ok-push.ensures.ok so_far.fitted);
      grows = grows_on old c.loop-set.plan c.fitted.new.plan so_far.grows c.fitted.ensures.grows;
    }

pub returns-clause-fitted : goal.returns-clause-fitted
returns-clause-fitted c =
    subst (λ ss. AreFittedSets c.args.plan.now c.loop-set.plan c.args.joined.now c.args.fill ss c.args.out.now c.loop-set.out) (take_all c.loop-set.set-index c.args.sets.now c.loop-set-test.false) c.loop-set.invariant.fitted
