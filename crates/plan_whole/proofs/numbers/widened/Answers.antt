use Rattle.std.proofs.Common.{◌++◌, ◌∙◌, [], ◌∷◌, Some, ap, map, refl}
use Rattle.xr_arrays.specs.Arrays.{IsCell}
use Rattle.plan_core.proofs.Steps.{first_is, step_more, all_pushed}
use Rattle.plan_whole.proofs.numbers.widened.Goals as goal

pub loop-i-preserved : goal.loop-i-preserved
loop-i-preserved g c =
    let number = g.T.Elem.number in
    let cells = c.args.cells.now in
    let x = c.index-cells-i.result in
    let out = c.loop-i.numbers.items in
    record {
      so_far = step_more (λ y. Some (number y)) (λ ys. map Some (map number ys)) cells c.loop-i.i x out c.push.new.self.items (map Some (map number cells)) (λ y ys. refl) (first_is cells c.loop-i.i x c.loop-i-test.true c.index-cells-i.is)
          (c.in_ok-push.ensures.items ∙ ap (λ n. out ++ n ∷ []) c.present.ensures.cell) c.loop-i.invariant.so_far;
      range = all_pushed (IsCell g.T.Elem.kind) out c.push.new.self.items c.present.result c.in_ok-push.ensures.items c.present.ensures.range c.loop-i.invariant.range;
    }
