use Rattle.std.proofs.Common.{◌≡◌, ◌<◌, ◌≤◌, ◌^◌, ◌∙◌, ℕ, List, [], ◌∷◌, length, get_or, refl, sym, ap, subst, arith}
use Rattle.std.specs.Prelude.{slice_set, sum}
use Rattle.std.proofs.lemmas.List.Elements.{All-cons}
use Rattle.xr_arrays.specs.Arrays.{Array}
use Rattle.xr_types.specs.Points.{size}
use Rattle.xr_arrays.specs.Nodes.{IsNode, Continues, input_of, most_node_cells}
use Rattle.xr_arrays.specs.declared.node.Node.TheVariants.{Concat}
use Rattle.plan_core.proofs.Fitting.{concat_fits}
use Rattle.plan_tests.proofs.Sources.{FitsSources, low, on_sources, two_sources}
use Rattle.plan_tests.proofs.plans.arrays_stand_one_after_the_other.Goals as goal

both_fit : (a b : Array) → a.shape ≡ 2 ∷ 3 ∷ [] → b.shape ≡ 2 ∷ 1 ∷ [] → b.kind ≡ a.kind → IsNode (a ∷ b ∷ []) (Concat (0 ∷ 1 ∷ []) 1)
both_fit a b sa sb kinds =
    let done : List Array = a ∷ b ∷ [] in
    let first : 0 < 2 = omega arith in
    let second : 1 < 2 = omega arith in
    let eight : 8 ≤ 2 ^ 50 = omega arith in
    let sizes : slice_set b.shape 1 0 ≡ slice_set a.shape 1 0 = ap (λ (s : List ℕ). slice_set s 1 0) sb ∙ sym (ap (λ (s : List ℕ). slice_set s 1 0) sa) in
    concat_fits done (0 ∷ 1 ∷ []) 1 first (All-cons (λ n. n < 2) 0 (1 ∷ []) first (All-cons (λ n. n < 2) 1 [] second (λ k d lt. absurd (omega arith)))) (subst (λ (s : List ℕ). 1 < length s) (sym sa) second)
    (All-cons (λ n. Continues 1 a (input_of done n)) 0 (1 ∷ []) (refl, refl) (All-cons (λ n. Continues 1 a (input_of done n)) 1 [] (kinds, sizes) (λ k d lt. absurd (omega arith))))
    (subst (λ (s : List ℕ). size (slice_set s 1 (sum (get_or s 1 0 ∷ get_or b.shape 1 0 ∷ []))) ≤ most_node_cells) (sym sa) (subst (λ (t : List ℕ). size (slice_set (2 ∷ 3 ∷ []) 1 (sum (3 ∷ get_or t 1 0 ∷ []))) ≤ most_node_cells) (sym sb) eight)) (low a.shape 2 3 sa)

fits : (inputs : List ℕ) → inputs ≡ 0 ∷ 1 ∷ [] → FitsSources (Concat inputs 1)
fits inputs is a b kind kinds left right = subst (λ (ns : List ℕ). IsNode (a ∷ b ∷ []) (Concat ns 1)) (sym is) (both_fit a b left right kinds)

pub shows-requires-clause-node : goal.shows-requires-clause-node
shows-requires-clause-node g c _ = on_sources c.in_ok-plan.plan _ c.in_ok-plan.ensures (fits c.in_ok-inputs.inputs c.in_ok-inputs.ensures)

pub shows-requires-clause-asked : goal.shows-requires-clause-asked
shows-requires-clause-asked g c _ = let long = two_sources c.in_ok-plan.plan c.in_ok-plan.ensures in omega (arith, long)
