use Rattle.std.proofs.Common.{◌+◌, ◌++◌, ◌∷◌, ◌∙◌, [], ap, subst, sym, take}
use Rattle.std.proofs.lemmas.List.{take_all, take_more}
use Rattle.xr_defs.specs.WellFormed.{IsCoordinate}
use Rattle.xr_aligning.specs.Fitted.{AreFitted}
use Rattle.xr_aligning.proofs.Behind.{none_fitted, one_fitted}
use Rattle.xr_aligning.proofs.Loops.{holds_here}
use Rattle.xr_aligning.proofs.coords.push_coords.Goals as goal

pub loop-coord-init : goal.loop-coord-init
loop-coord-init c = λ all. none_fitted c.args.change.now.joined.now c.args.change.now.fill c.args.change.now.own.now c.args.out.now

pub loop-coord-preserved : goal.loop-coord-preserved
loop-coord-preserved c = λ all.
    let change = c.args.change.now in
    let coords = c.args.coords.now in
    let i = c.loop-coord.coord-index in
    let coord = c.coord-item.result in
    let inside = c.loop-coord-test.true in
    subst (λ cs. AreFitted change.joined.now change.fill change.own.now c.args.out.now cs c.push.new.self) (sym (take_more coords i coord inside ∙ ap (λ x. take i coords ++ x ∷ []) (sym c.coord-item.is)))
    (one_fitted change.joined.now change.fill change.own.now (take i coords) coord c.in_ok-one.one c.args.out.now c.loop-coord.out c.push.new.self c.in_ok-push.ensures.ok (c.in_ok-one.ensures (holds_here coords i coord inside c.coord-item.is (IsCoordinate change.own.now) all)) (c.loop-coord.invariant all))

pub returns : goal.returns
returns c = λ all.
    subst (λ cs. AreFitted c.args.change.now.joined.now c.args.change.now.fill c.args.change.now.own.now c.args.out.now cs c.loop-coord.out) (take_all c.loop-coord.coord-index c.args.coords.now c.loop-coord-test.false) (c.loop-coord.invariant all)
