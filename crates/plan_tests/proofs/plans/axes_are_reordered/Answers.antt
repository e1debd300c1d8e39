use Rattle.std.proofs.Common.{◌≡◌, ◌<◌, ◌≤◌, ◌^◌, ℕ, zero, suc, true, List, [], ◌∷◌, refl, sym, subst, arith}
use Rattle.std.specs.Prelude.{◌==◌}
use Rattle.std.specs.List.{list_any}
use Rattle.xr_arrays.specs.Nodes.{IsNode}
use Rattle.xr_arrays.specs.declared.node.Node.TheVariants.{Reorder}
use Rattle.plan_core.proofs.Fitting.{reorder_fits}
use Rattle.plan_tests.proofs.Sources.{FitsSources, on_sources, two_axes, two_sources}
use Rattle.plan_tests.proofs.plans.axes_are_reordered.Goals as goal

each : (k : ℕ) → k < 2 → list_any (λ o. o == k) (1 ∷ 0 ∷ []) ≡ true
each zero lt = refl
each (suc zero) lt = refl
each (suc (suc k)) lt = absurd (omega arith)

fits : (order : List ℕ) → order ≡ 1 ∷ 0 ∷ [] → FitsSources (Reorder 0 order)
fits order is a b kind kinds left right =
    let there : 0 < 2 = omega arith in
    let small : 6 ≤ 2 ^ 50 = omega arith in
    subst (λ (order : List ℕ). IsNode (a ∷ b ∷ []) (Reorder 0 order)) (sym is) (reorder_fits (a ∷ b ∷ []) 0 (2 ∷ 3 ∷ []) (1 ∷ 0 ∷ []) there left (refl, each) small two_axes)

pub shows-requires-clause-node : goal.shows-requires-clause-node
shows-requires-clause-node g c _ = on_sources c.in_ok-plan.plan _ c.in_ok-plan.ensures (fits c.from_slice-order.result c.from_slice-order.ensures)

pub shows-requires-clause-asked : goal.shows-requires-clause-asked
shows-requires-clause-asked g c _ = let long = two_sources c.in_ok-plan.plan c.in_ok-plan.ensures in omega (arith, long)
