use Rattle.std.proofs.Common.{◌≡◌, ◌<◌, ◌≤◌, ◌^◌, ℕ, List, [], ◌∷◌, length, sym, subst, refl, arith}
use Rattle.std.specs.Prelude.{slice_set, sum, get_or}
use Rattle.std.proofs.lemmas.List.Elements.{All-cons}
use Rattle.xr_arrays.specs.Arrays.{Array}
use Rattle.xr_types.specs.Points.{size}
use Rattle.xr_arrays.specs.Nodes.{IsNode, Continues, input_of, most_node_cells}
use Rattle.xr_arrays.specs.declared.node.Node.TheVariants.{Concat}
use Rattle.plan_core.proofs.Fitting.{concat_fits}
use Rattle.plan_tests.proofs.Sources.{few, low, on_source}
use Rattle.plan_tests.proofs.plans.rows_twice.Goals as goal

twice_fits : (a : Array) (inputs : List ℕ) → inputs ≡ 0 ∷ 0 ∷ [] → a.shape ≡ 3 ∷ 2 ∷ [] → IsNode (a ∷ []) (Concat inputs 1)
twice_fits a inputs is shape =
    let done : List Array = a ∷ [] in
    let there : 0 < 1 = omega arith in
    let some : 0 < 2 = omega arith in
    let axis : 1 < 2 = omega arith in
    let twelve : 12 ≤ 2 ^ 50 = omega arith in
    subst (λ (ns : List ℕ). IsNode done (Concat ns 1)) (sym is)
    (concat_fits done (0 ∷ 0 ∷ []) 1 some (All-cons (λ n. n < 1) 0 (0 ∷ []) there (All-cons (λ n. n < 1) 0 [] there (λ k d lt. absurd (omega arith)))) (subst (λ (s : List ℕ). 1 < length s) (sym shape) axis)
    (All-cons (λ n. Continues 1 a (input_of done n)) 0 (0 ∷ []) (refl, refl) (All-cons (λ n. Continues 1 a (input_of done n)) 0 [] (refl, refl) (λ k d lt. absurd (omega arith))))
    (subst (λ (s : List ℕ). size (slice_set s 1 (sum (get_or s 1 0 ∷ get_or s 1 0 ∷ []))) ≤ most_node_cells) (sym shape) twelve) (low a.shape 3 2 shape))

pub source-requires-clause-few : goal.source-requires-clause-few
source-requires-clause-few c =
    let small : 6 ≤ 2 ^ 50 = omega arith in
    few c.in_ok-a.a.shape 3 2 c.in_ok-a.ensures.shape small

pub source-requires-clause-rank : goal.source-requires-clause-rank
source-requires-clause-rank c = low c.in_ok-a.a.shape 3 2 c.in_ok-a.ensures.shape

pub push-requires : goal.push-requires
push-requires c = on_source c.in_ok-plan.plan c.in_ok-a.a _ c.in_ok-plan.ensures (twice_fits c.in_ok-a.a c.in_ok-inputs.inputs c.in_ok-inputs.ensures c.in_ok-a.ensures.shape)
