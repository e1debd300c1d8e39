use Rattle.std.proofs.Common.{rules, subst, sym}
use Rattle.xr_joint.specs.Joint.{AllInside}
use Rattle.xr_joint.proofs.Placing.{all_inside, slices_hold, slices_placed}
use Rattle.xr_joint.proofs.dataset.placed.Goals as goal

pub push_placed-requires : goal.push_placed-requires
push_placed-requires c = subst (AllInside c.args.plan.now) (sym c.as_slice.ensures) (all_inside c.args.plan.now c.args.axes.now c.args.joint.vars c.requires.ready)

pub returns-clause-is : goal.returns-clause-is
returns-clause-is c =
    slices_placed c.args.plan.now c.push_placed.new.plan c.args.axes.now c.args.joint c.args.attrs c.args.skipped c.in_ok-held.held c.push_placed.new.out c.new-vars.result c.as_slice.result.now c.as_slice-2.result.now c.as_slice-3.result.now
    c.new-vars.ensures c.as_slice.ensures c.as_slice-2.ensures c.as_slice-3.ensures.variables c.in_ok-push_placed.ensures.placed c.in_ok-held.ensures

pub returns-clause-holds : goal.returns-clause-holds
returns-clause-holds c =
    slices_hold c.args.plan.now c.push_placed.new.plan c.args.axes.now c.args.joint c.args.attrs c.args.skipped c.in_ok-held.held c.push_placed.new.out c.new-vars.result c.as_slice.result.now c.as_slice-4.result.now c.as_slice-5.result.now c.as_slice-6.result.now
    c.new-vars.ensures c.as_slice.ensures c.as_slice-4.ensures c.as_slice-5.ensures.variables c.as_slice-6.ensures c.in_ok-push_placed.ensures.placed c.requires.ready (c.have_sizes.ensures (search rules)) (c.in_ok-hold_contents.ensures (search rules))
