use Rattle.std.proofs.Common.{subst, sym}
use Rattle.xr_combine.specs.Sets.{AreSetsIn}
use Rattle.xr_combine.proofs.sets.all_shared.Goals as goal

pub returns-clause-inside : goal.returns-clause-inside
returns-clause-inside c = λ nodes inside. c.in_ok-push_shared.ensures.inside nodes inside (subst (AreSetsIn nodes) (sym c.new-out.ensures) tt)
