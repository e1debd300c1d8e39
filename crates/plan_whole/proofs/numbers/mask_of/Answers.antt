use Rattle.std.proofs.Common.{◌++◌, ◌∙◌, [], ◌∷◌, None, ap, get_or, map, refl}
use Rattle.plan_core.specs.Arrangements.{gap}
use Rattle.plan_core.proofs.Steps.{first_at, step_more}
use Rattle.plan_whole.proofs.numbers.mask_of.Goals as goal

pub loop-cell-preserved : goal.loop-cell-preserved
loop-cell-preserved c =
    let cells = c.args.cells.now in
    let i = c.loop-cell.cell-index in
    let out = c.loop-cell.mask.items in
    step_more gap (map gap) cells i (get_or cells i None) out c.push.new.self.items (map gap cells) (λ y ys. refl) (first_at cells i None c.loop-cell-test.true) (c.in_ok-push.ensures.items ∙ ap (λ b. out ++ b ∷ []) c.byte.ensures) c.loop-cell.invariant
