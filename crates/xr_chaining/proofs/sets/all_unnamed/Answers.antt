use Rattle.std.proofs.Common.{subst, sym}
use Rattle.std.specs.List.{AllByRecursion}
use Rattle.xr_chaining.specs.Sets.{IsUnnamedIn}
use Rattle.xr_chaining.proofs.sets.all_unnamed.Goals as goal

pub returns-clause-inside : goal.returns-clause-inside
returns-clause-inside c = λ nodes inside. c.in_ok-push_unnamed.ensures.inside nodes inside (subst (AllByRecursion (IsUnnamedIn nodes)) (sym c.new-out.ensures) tt)
