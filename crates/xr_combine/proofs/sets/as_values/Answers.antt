use Rattle.std.proofs.Common.{subst, sym}
use Rattle.std.specs.List.{AllByRecursion}
use Rattle.xr_values.specs.Meaning.{IsValueIn}
use Rattle.xr_combine.proofs.sets.as_values.Goals as goal

pub returns-clause-inside : goal.returns-clause-inside
returns-clause-inside c = λ nodes inside. c.in_ok-push_values.ensures.inside nodes inside (subst (AllByRecursion (IsValueIn nodes)) (sym c.new-out.ensures) tt)
