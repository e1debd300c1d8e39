use Rattle.xr_formulas.proofs.Common.{IsNode, Node, Pushes, drop_all, subst, sym, values}
use Rattle.xr_values.proofs.Places.{from_place}
use Rattle.xr_formulas.proofs.Chains.{IsOn, first_on, last_on, next_on, step_fits}
use Rattle.xr_formulas.proofs.chain.push_chain.Goals as goal

pub loop-step-init : goal.loop-step-init
loop-step-init c =
    subst (IsOn c.args.plan.now c.push_start.new.plan c.args.chain.now c.in_ok-first.first) (sym c.as_slice-steps.ensures)
    (first_on c.requires c.in_ok-first.ensures.value c.push_start.ensures.grows c.in_ok-first.ensures.cells)

pub push-requires : goal.push-requires
push-requires c =
    let is = from_place c.as_slice-steps.result.now c.loop-step.step-index c.step-item.result c.loop-step-test.true c.step-item.is in
    let on = c.loop-step.invariant in
    subst (IsNode (values c.loop-step.plan)) (sym c.in_ok-next.ensures) (step_fits c.loop-step.plan c.step-item.result c.loop-step.node on.inside (rw is at on.fits).0)

pub loop-step-preserved : goal.loop-step-preserved
loop-step-preserved c =
    let is = from_place c.as_slice-steps.result.now c.loop-step.step-index c.step-item.result c.loop-step-test.true c.step-item.is in
    next_on is c.loop-step.invariant (subst (λ (n : Node). Pushes c.loop-step.plan c.push.new.self n c.in_ok-node.node) c.in_ok-next.ensures c.in_ok-node.ensures.ok)

pub returns-clause-value : goal.returns-clause-value
returns-clause-value c = (last_on (drop_all c.loop-step.step-index c.as_slice-steps.result.now c.loop-step-test.false) c.loop-step.invariant).0

pub returns-clause-cells : goal.returns-clause-cells
returns-clause-cells c = (last_on (drop_all c.loop-step.step-index c.as_slice-steps.result.now c.loop-step-test.false) c.loop-step.invariant).1
