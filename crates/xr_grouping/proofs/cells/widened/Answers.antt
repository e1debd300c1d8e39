use Rattle.std.proofs.Common.{◌++◌, ◌∙◌, [], ◌∷◌, Some, ap, map, refl}
use Rattle.plan_core.proofs.Steps.{first_is, step_more}
use Rattle.xr_grouping.proofs.cells.widened.Goals as goal

pub loop-i-preserved : goal.loop-i-preserved
loop-i-preserved g c =
    let number = g.T.Elem.number in
    let cells = c.args.cells.now in
    let x = c.index-cells-i.result in
    let out = c.loop-i.keys.items in
    step_more (λ y. Some (number y)) (λ ys. map Some (map number ys)) cells c.loop-i.i x out c.push.new.self.items (map Some (map number cells)) (λ y ys. refl) (first_is cells c.loop-i.i x c.loop-i-test.true c.index-cells-i.is)
    (c.in_ok-push.ensures.items ∙ ap (λ n. out ++ n ∷ []) c.present.ensures) c.loop-i.invariant
