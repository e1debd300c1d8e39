use Rattle.xr_concat.proofs.Opened.{opens_held}
use Rattle.xr_concat.proofs.sets.sets_over.Goals as goal

pub returns-clause-answers : goal.returns-clause-answers
returns-clause-answers c = (c.in_ok-check_limits.ensures c.args.plan.now c.args.fill c.requires.open, c.in_ok-over.ensures.means, opens_held c.all_fitted.new.plan c.in_ok-over.over c.in_ok-over.ensures.inside)
