use Rattle.std.proofs.Common.{◌++◌, ◌∙◌, [], ◌∷◌, None, ap, arith, get_or, map, refl}
use Rattle.plan_core.specs.Arrangements.{gap}
use Rattle.plan_core.proofs.Steps.{first_at, step_more}
use Rattle.row_folds.proofs.outcome.mask.Goals as goal

pub loop-i-preserved : goal.loop-i-preserved
loop-i-preserved g c =
    let cells = g.R.Outcome.cells c.args.cells in
    let i = c.loop-i.i in
    let out = c.loop-i.mask.items in
    step_more gap (map gap) cells i (get_or cells i None) out c.push.new.self.items (map gap cells) (λ y ys. refl) (first_at cells i None (let lt = c.loop-i-test.true in let n = c.len-count.ensures in omega (arith, lt, n))) (c.in_ok-push.ensures.items ∙ ap (λ b. out ++ b ∷ []) c.gap.ensures) c.loop-i.invariant
