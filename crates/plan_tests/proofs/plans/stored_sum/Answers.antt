use Rattle.std.proofs.Common.{◌≡◌, ◌<◌, ◌≤◌, ◌^◌, [], ◌∷◌, refl, ap, length, arith}
use Rattle.xr_arrays.specs.declared.node.Feed.TheVariants as feed
use Rattle.plan_core.proofs.Fitting.{fold_fits}
use Rattle.plan_tests.proofs.Sources.{on_source, few, low, two_axes}
use Rattle.plan_tests.proofs.plans.stored_sum.Goals as goal

pub source-requires-clause-few : goal.source-requires-clause-few
source-requires-clause-few g c =
    let small : 6 ≤ 2 ^ 50 = omega arith in
    few c.in_ok-a.a.shape 2 3 c.in_ok-a.ensures.shape small

pub source-requires-clause-rank : goal.source-requires-clause-rank
source-requires-clause-rank g c = low c.in_ok-a.a.shape 2 3 c.in_ok-a.ensures.shape

pub shows-requires-clause-node : goal.shows-requires-clause-node
shows-requires-clause-node g c _ _ =
    let there : 0 < 1 = omega arith in
    let small : 1 ≤ 2 ^ 50 = omega arith in
    on_source c.in_ok-plan.plan c.in_ok-a.a _ c.in_ok-plan.ensures
    (fold_fits (c.in_ok-a.a ∷ []) _ 0 (2 ∷ 3 ∷ []) (feed.All ∷ feed.All ∷ []) _ there c.in_ok-a.ensures.shape c.in_ok-feeds.ensures refl (tt, (tt, tt)) (λ e. absurd cc) small two_axes)

pub shows-requires-clause-asked : goal.shows-requires-clause-asked
shows-requires-clause-asked g c _ _ =
    let long : length c.in_ok-plan.plan ≡ 1 = ap length c.in_ok-plan.ensures in
    omega (arith, long)
