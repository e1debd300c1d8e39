use Rattle.std.proofs.Common.{◌<◌, ◌≤◌, ◌^◌, [], ◌∷◌, refl, sym, arith}
use Rattle.xr_types.specs.declared.kind.DType.TheVariants as kinds
use Rattle.xr_types.specs.declared.operation.OpKind.TheVariants as ops
use Rattle.xr_arrays.specs.declared.node.Node.TheVariants.{Unary}
use Rattle.plan_core.proofs.Fitting.{unary_fits}
use Rattle.plan_tests.proofs.Sources.{FitsSources, no_truths, on_sources, two_axes, two_sources}
use Rattle.plan_tests.proofs.plans.cells_are_negated.Goals as goal

fits : FitsSources (Unary ops.Negate kinds.Int16 0)
fits a b kind others left right =
    let there : 0 < 2 = omega arith in
    let small : 6 ≤ 2 ^ 50 = omega arith in
    unary_fits (a ∷ b ∷ []) ops.Negate kinds.Int16 0 (2 ∷ 3 ∷ []) there left refl (sym kind) (λ e. no_truths a.kind kind) small two_axes

pub shows-requires-clause-node : goal.shows-requires-clause-node
shows-requires-clause-node g c _ = on_sources c.in_ok-plan.plan _ c.in_ok-plan.ensures fits

pub shows-requires-clause-asked : goal.shows-requires-clause-asked
shows-requires-clause-asked g c _ = let long = two_sources c.in_ok-plan.plan c.in_ok-plan.ensures in omega (arith, long)
