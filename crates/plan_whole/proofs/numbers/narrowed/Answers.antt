use Rattle.std.proofs.Common.{◌++◌, ◌∙◌, [], ◌∷◌, None, ap, get_or, map, refl}
use Rattle.std.proofs.lemmas.List.{map-append}
use Rattle.plan_core.specs.Arrangements.{filling}
use Rattle.plan_core.proofs.Steps.{first_at, step_more}
use Rattle.plan_whole.proofs.numbers.narrowed.Goals as goal

pub loop-i-preserved : goal.loop-i-preserved
loop-i-preserved g c =
    let number = g.T.Elem.number in
    let cells = c.args.cells.now in
    let i = c.loop-i.i in
    let out = c.loop-i.all.items in
    step_more filling (map filling) cells i (get_or cells i None) (map number out) (map number c.push.new.self.items) (map filling cells) (λ y ys. refl) (first_at cells i None c.loop-i-test.true)
    (ap (map number) c.in_ok-push.ensures.items ∙ map-append number out (c.narrow.result ∷ []) ∙ ap (λ n. map number out ++ n ∷ []) c.narrow.ensures) c.loop-i.invariant
