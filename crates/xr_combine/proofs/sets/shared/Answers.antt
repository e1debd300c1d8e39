use Rattle.std.proofs.Common.{subst, sym}
use Rattle.xr_arguments.proofs.Inside.{inside_set}
use Rattle.xr_values.specs.Stands.{IsDatasetIn}
use Rattle.xr_combine.proofs.sets.shared.Goals as goal

pub returns-in_ok-clone-in-Set-clause-inside : goal.returns-in_ok-clone-in-Set-clause-inside
returns-in_ok-clone-in-Set-clause-inside c = λ nodes inside. subst (IsDatasetIn nodes) (sym c.in_ok-clone-in-Set.ensures.cases) (inside_set nodes c.args.value.now c.in-Set.set c.in-Set.is inside)
