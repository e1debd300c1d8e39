use Rattle.std.proofs.Common.{◌++◌, ◌∙◌, [], ◌∷◌, None, ap, arith, get_or, map, refl}
use Rattle.std.proofs.lemmas.List.{map-append}
use Rattle.plan_core.specs.Arrangements.{filling}
use Rattle.plan_core.proofs.Steps.{first_at, step_more}
use Rattle.row_folds.proofs.outcome.numbers.Goals as goal

pub loop-i-preserved : goal.loop-i-preserved
loop-i-preserved g c =
    let number = g.O.Elem.number in
    let cells = g.R.Outcome.cells c.args.cells in
    let i = c.loop-i.i in
    let out = c.loop-i.all.items in
    step_more filling (map filling) cells i (get_or cells i None) (map number out) (map number c.push.new.self.items) (map filling cells) (λ y ys. refl) (first_at cells i None (let lt = c.loop-i-test.true in let n = c.len-count.ensures in omega (arith, lt, n)))
    (ap (map number) c.in_ok-push.ensures.items ∙ map-append number out (c.number.result ∷ []) ∙ ap (λ n. map number out ++ n ∷ []) c.number.ensures) c.loop-i.invariant
