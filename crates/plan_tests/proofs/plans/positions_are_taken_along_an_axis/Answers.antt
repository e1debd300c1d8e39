use Rattle.std.proofs.Common.{◌≡◌, ◌<◌, ◌≤◌, ◌^◌, ℕ, pos, false, List, [], ◌∷◌, Option, Some, None, sym, subst, arith}
use Rattle.std.proofs.lemmas.Int.{ints}
use Rattle.std.specs.List.{All}
use Rattle.std.proofs.lemmas.List.Elements.{All-cons}
use Rattle.xr_types.specs.declared.kind.DType.{DType}
use Rattle.xr_types.specs.declared.kind.DType.TheVariants.{Int16}
use Rattle.xr_arrays.specs.Arrays.{IsCell}
use Rattle.xr_arrays.specs.Nodes.{IsNode, IsBelow}
use Rattle.xr_arrays.specs.declared.node.Node.TheVariants.{Take}
use Rattle.plan_core.proofs.Fitting.{take_fits}
use Rattle.plan_tests.proofs.Sources.{FitsSources, on_sources, two_axes, two_sources}
use Rattle.plan_tests.proofs.plans.positions_are_taken_along_an_axis.Goals as goal

none : All (IsBelow 3) []
none = λ k d lt. absurd (omega arith)

below : All (IsBelow 3) (Some 2 ∷ Some 0 ∷ None ∷ Some 1 ∷ [])
below =
    All-cons (IsBelow 3) (Some 2) (Some 0 ∷ None ∷ Some 1 ∷ []) (omega arith) (All-cons (IsBelow 3) (Some 0) (None ∷ Some 1 ∷ []) (omega arith)
    (All-cons (IsBelow 3) None (Some 1 ∷ []) tt (All-cons (IsBelow 3) (Some 1) [] (omega arith) none)))

six : IsCell Int16 (Some (pos 6))
six = (omega (arith, ints), omega (arith, ints))

fits : (from : List (Option ℕ)) → from ≡ Some 2 ∷ Some 0 ∷ None ∷ Some 1 ∷ [] → FitsSources (Take 0 1 from (Some (pos 6)) false)
fits from is a b kind kinds left right =
    let there : 0 < 2 = omega arith in
    let axis : 1 < 2 = omega arith in
    let small : 8 ≤ 2 ^ 50 = omega arith in
    subst (λ (from : List (Option ℕ)). IsNode (a ∷ b ∷ []) (Take 0 1 from (Some (pos 6)) false)) (sym is)
    (take_fits (a ∷ b ∷ []) 0 1 (2 ∷ 3 ∷ []) (Some 2 ∷ Some 0 ∷ None ∷ Some 1 ∷ []) (Some (pos 6)) false there left axis below (subst (λ (t : DType). IsCell t (Some (pos 6))) (sym kind) six) (λ e. absurd cc) small two_axes)

pub shows-requires-clause-node : goal.shows-requires-clause-node
shows-requires-clause-node g c _ = on_sources c.in_ok-plan.plan _ c.in_ok-plan.ensures (fits c.in_ok-from.from c.in_ok-from.ensures)

pub shows-requires-clause-asked : goal.shows-requires-clause-asked
shows-requires-clause-asked g c _ = let long = two_sources c.in_ok-plan.plan c.in_ok-plan.ensures in omega (arith, long)
