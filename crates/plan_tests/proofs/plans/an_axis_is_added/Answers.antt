use Rattle.std.proofs.Common.{◌<◌, ◌≤◌, ◌^◌, [], ◌∷◌, arith}
use Rattle.xr_arrays.specs.declared.node.Node.TheVariants.{Widen}
use Rattle.plan_core.proofs.Fitting.{widen_fits}
use Rattle.plan_tests.proofs.Sources.{FitsSources, on_sources, two_sources}
use Rattle.plan_tests.proofs.plans.an_axis_is_added.Goals as goal

fits : FitsSources (Widen 1 1 3)
fits a b kind kinds left right =
    let there : 1 < 2 = omega arith in
    let axis : 1 ≤ 2 = omega arith in
    let small : 6 ≤ 2 ^ 50 = omega arith in
    widen_fits (a ∷ b ∷ []) 1 1 3 (2 ∷ 1 ∷ []) there right axis small (omega arith)

pub shows-requires-clause-node : goal.shows-requires-clause-node
shows-requires-clause-node g c _ = on_sources c.in_ok-plan.plan _ c.in_ok-plan.ensures fits

pub shows-requires-clause-asked : goal.shows-requires-clause-asked
shows-requires-clause-asked g c _ = let long = two_sources c.in_ok-plan.plan c.in_ok-plan.ensures in omega (arith, long)
