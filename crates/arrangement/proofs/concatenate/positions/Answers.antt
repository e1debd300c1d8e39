use Rattle.std.proofs.Common.{◌++◌, ◌∙◌, ℕ, List, [], ◌∷◌, ap, get_or, map, refl}
use Rattle.plan_core.proofs.Steps.{first_is, step_more}
use Rattle.arrangement.proofs.concatenate.positions.Goals as goal

pub loop-a-preserved : goal.loop-a-preserved
loop-a-preserved c =
    let inputs = c.args.inputs.now in
    let a = c.a-item.result in
    let out = c.loop-a.counts.items in
    let axis = c.args.axis in
    let size = c.size_of.ensures ∙ ap (λ (s : List ℕ). get_or s axis 0) c.shape.ensures in
    step_more (λ b. get_or b.now.shape axis 0) (map (λ b. get_or b.now.shape axis 0)) inputs c.loop-a.a-index a out c.push.new.self.items (map (λ b. get_or b.now.shape axis 0) inputs) (λ y ys. refl) (first_is inputs c.loop-a.a-index a c.loop-a-test.true c.a-item.is)
    (c.in_ok-push.ensures.items ∙ ap (λ n. out ++ n ∷ []) size) c.loop-a.invariant
