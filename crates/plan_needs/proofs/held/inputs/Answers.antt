use Rattle.std.proofs.Common.{◌++◌, ◌∙◌, [], ◌∷◌, ap, get_or, map, refl}
use Rattle.std.proofs.lemmas.List.{map-append}
use Rattle.xr_arrays.specs.Nodes.{value}
use Rattle.plan_core.proofs.Steps.{first_at, step_more}
use Rattle.plan_needs.proofs.held.inputs.Goals as goal

pub loop-id-preserved : goal.loop-id-preserved
loop-id-preserved c =
    let ids = c.args.ids.now in
    let i = c.loop-id.id-index in
    let of = value c.args.nodes.now in
    let out = c.loop-id.values.items in
    step_more of (map of) ids i (get_or ids i 0) (map (λ a. a.now) out) (map (λ a. a.now) c.push.new.self.items) (map of ids) (λ y ys. refl) (first_at ids i 0 c.loop-id-test.true)
    (ap (map (λ a. a.now)) c.in_ok-push.ensures.items ∙ map-append (λ a. a.now) out (c.input.result ∷ []) ∙ ap (λ n. map (λ a. a.now) out ++ n ∷ []) c.input.ensures) c.loop-id.invariant
