use Rattle.std.proofs.Common.{◌≡◌, ◌<◌, ◌≤◌, ◌^◌, ℕ, true, List, [], ◌∷◌, Option, Some, None, refl, sym, subst, arith}
use Rattle.std.specs.List.{All}
use Rattle.std.proofs.lemmas.List.Elements.{All-cons}
use Rattle.xr_arrays.specs.Nodes.{IsNode, IsBelow}
use Rattle.xr_arrays.specs.declared.node.Node.TheVariants.{Take}
use Rattle.plan_core.proofs.Fitting.{take_fits}
use Rattle.plan_tests.proofs.Sources.{FitsSources, on_sources, two_axes, two_sources}
use Rattle.plan_tests.proofs.plans.one_position_drops_its_axis.Goals as goal

below : All (IsBelow 3) (Some 2 ∷ [])
below = All-cons (IsBelow 3) (Some 2) [] (omega arith) (λ k d lt. absurd (omega arith))

fits : (from : List (Option ℕ)) → from ≡ Some 2 ∷ [] → FitsSources (Take 0 1 from None true)
fits from is a b kind kinds left right =
    let there : 0 < 2 = omega arith in
    let axis : 1 < 2 = omega arith in
    let small : 2 ≤ 2 ^ 50 = omega arith in
    subst (λ (from : List (Option ℕ)). IsNode (a ∷ b ∷ []) (Take 0 1 from None true)) (sym is) (take_fits (a ∷ b ∷ []) 0 1 (2 ∷ 3 ∷ []) (Some 2 ∷ []) None true there left axis below tt (λ e. refl) small two_axes)

pub shows-requires-clause-node : goal.shows-requires-clause-node
shows-requires-clause-node g c _ = on_sources c.in_ok-plan.plan _ c.in_ok-plan.ensures (fits c.in_ok-from.from c.in_ok-from.ensures)

pub shows-requires-clause-asked : goal.shows-requires-clause-asked
shows-requires-clause-asked g c _ = let long = two_sources c.in_ok-plan.plan c.in_ok-plan.ensures in omega (arith, long)
