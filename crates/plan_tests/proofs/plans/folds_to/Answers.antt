use Rattle.std.proofs.Common.{◌<◌, [], ◌∷◌, arith, refl}
use Rattle.plan_core.proofs.Fitting.{fold_fits}
use Rattle.plan_tests.proofs.Sources.{on_sources, two_axes, two_sources}
use Rattle.plan_tests.proofs.plans.folds_to.Goals as goal

pub shows-requires-clause-node : goal.shows-requires-clause-node
shows-requires-clause-node g c _ _ =
    on_sources c.in_ok-plan.plan _ c.in_ok-plan.ensures
    (λ a b kind kinds left right. let there : 0 < 2 = omega arith in fold_fits (a ∷ b ∷ []) c.args.fold 0 (2 ∷ 3 ∷ []) (c.args.first ∷ c.args.second ∷ []) c.in_ok-feeds.feeds there left c.in_ok-feeds.ensures refl c.requires.fed c.requires.one c.requires.small two_axes)

pub shows-requires-clause-asked : goal.shows-requires-clause-asked
shows-requires-clause-asked g c _ _ = let long = two_sources c.in_ok-plan.plan c.in_ok-plan.ensures in omega (arith, long, c.requires.asked)
