use Rattle.std.proofs.Common.{◌<◌, ◌≤◌, ◌^◌, [], ◌∷◌, arith}
use Rattle.xr_types.specs.declared.operation.FoldKind.TheVariants.{Sum}
use Rattle.xr_arrays.specs.declared.node.Node.TheVariants.{Scan}
use Rattle.plan_core.proofs.Fitting.{scan_fits}
use Rattle.plan_tests.proofs.Sources.{FitsSources, on_sources, two_axes, two_sources}
use Rattle.plan_tests.proofs.plans.rows_are_summed_up.Goals as goal

fits : FitsSources (Scan Sum 0 1)
fits a b kind others left right =
    let there : 0 < 2 = omega arith in
    let axis : 1 < 2 = omega arith in
    let small : 6 ≤ 2 ^ 50 = omega arith in
    scan_fits (a ∷ b ∷ []) 0 1 (2 ∷ 3 ∷ []) there left axis small two_axes

pub shows-requires-clause-node : goal.shows-requires-clause-node
shows-requires-clause-node g c _ = on_sources c.in_ok-plan.plan _ c.in_ok-plan.ensures fits

pub shows-requires-clause-asked : goal.shows-requires-clause-asked
shows-requires-clause-asked g c _ = let long = two_sources c.in_ok-plan.plan c.in_ok-plan.ensures in omega (arith, long)
