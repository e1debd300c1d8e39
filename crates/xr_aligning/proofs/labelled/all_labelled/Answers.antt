use Rattle.xr_aligning.proofs.Common.{AllByRecursion, IsLabelledIn, subst, sym}
use Rattle.xr_aligning.proofs.labelled.all_labelled.Goals as goal

pub returns-clause-inside : goal.returns-clause-inside
returns-clause-inside c = λ nodes inside. c.in_ok-push_labelled.ensures.inside nodes inside (subst (AllByRecursion (IsLabelledIn nodes)) (sym c.new-out.ensures) tt)
