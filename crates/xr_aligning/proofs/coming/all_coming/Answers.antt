use Rattle.xr_aligning.proofs.Common.{AllByRecursion, Comes, subst, sym}
use Rattle.xr_aligning.proofs.coming.all_coming.Goals as goal

pub returns-clause-comes : goal.returns-clause-comes
returns-clause-comes c = λ nodes inside. c.in_ok-push_coming.ensures.comes nodes inside (subst (AllByRecursion Comes) (sym c.new-out.ensures) tt)
