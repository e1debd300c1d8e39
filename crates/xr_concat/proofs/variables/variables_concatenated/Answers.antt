use Rattle.std.proofs.Common.{◌∙◌, subst, sym}
use Rattle.xr_joint.specs.Joint.{AreReady}
use Rattle.xr_concat.proofs.Kept.{of_first, of_none}
use Rattle.xr_concat.proofs.variables.variables_concatenated.Goals as goal

pub push_concatenated-requires-clause-ready : goal.push_concatenated-requires-clause-ready
push_concatenated-requires-clause-ready c = subst (AreReady c.args.plan.now c.args.axes.now) (sym c.new-out.ensures) tt

pub returns-in-empty-clause-answers : goal.returns-in-empty-clause-answers
returns-in-empty-clause-answers c = of_none c.args.plan.now c.args.dim.now c.args.sets.now c.new-out.result c.in-empty.len_below c.new-out.ensures

pub returns-in_ok-push_concatenated-in-len1-up-clause-answers : goal.returns-in_ok-push_concatenated-in-len1-up-clause-answers
returns-in_ok-push_concatenated-in-len1-up-clause-answers c =
    of_first c.args.plan.now c.args.dim.now c.args.sets.now c.first-item.result c.new-out.result c.as_slice.result.now c.in-len1-up.len_at_least c.first-item.is c.new-out.ensures c.as_slice.ensures.variables ∙ c.in_ok-push_concatenated-in-len1-up.ensures.answers
