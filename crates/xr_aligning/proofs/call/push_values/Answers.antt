use Rattle.xr_aligning.proofs.Common.{ArePlaced, [], ap, drop, from_place, subst, sym, take, take_all, take_more, ◌++◌, ◌+◌, ◌∙◌, ◌∷◌}
use Rattle.xr_aligning.proofs.Placing.{next, none_yet, ready_now}
use Rattle.xr_aligning.proofs.call.push_values.Goals as goal

pub loop-one-init : goal.loop-one-init
loop-one-init c = none_yet c.args.plan.now c.args.fill c.args.out.now c.args.coming.now c.requires

pub value_after-requires : goal.value_after-requires
value_after-requires c =
    ready_now c.args.plan.now c.args.fill c.args.out.now
    c.loop-one.plan (take c.loop-one.one-index c.args.coming.now) (drop c.loop-one.one-index c.args.coming.now) (drop (c.loop-one.one-index + 1) c.args.coming.now) c.loop-one.out c.one-item.result
    (from_place c.args.coming.now c.loop-one.one-index c.one-item.result c.loop-one-test.true c.one-item.is) c.loop-one.invariant

pub loop-one-preserved : goal.loop-one-preserved
loop-one-preserved c =
    next c.args.plan.now c.args.fill c.args.out.now
    c.loop-one.plan (take c.loop-one.one-index c.args.coming.now) (drop c.loop-one.one-index c.args.coming.now) (drop (c.loop-one.one-index + 1) c.args.coming.now) c.loop-one.out c.one-item.result
    (from_place c.args.coming.now c.loop-one.one-index c.one-item.result c.loop-one-test.true c.one-item.is) c.loop-one.invariant
    c.value_after.new.plan (take (c.loop-one.one-index + 1) c.args.coming.now) c.in_ok-value.value c.push.new.self
    (take_more c.args.coming.now c.loop-one.one-index c.one-item.result c.loop-one-test.true ∙ ap (λ m. take c.loop-one.one-index c.args.coming.now ++ m ∷ []) (sym c.one-item.is))
    c.value_after.ensures.grows c.in_ok-value.ensures.means c.in_ok-value.ensures.inside c.in_ok-push.ensures.ok

pub returns-clause-placed : goal.returns-clause-placed
returns-clause-placed c =
    subst (λ ms. ArePlaced c.args.plan.now c.loop-one.plan c.args.fill ms c.args.out.now c.loop-one.out) (take_all c.loop-one.one-index c.args.coming.now c.loop-one-test.false) c.loop-one.invariant.placed
