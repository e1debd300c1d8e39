use Rattle.xr_arguments.proofs.Inside.{inside_set}
use Rattle.xr_combine.proofs.lines.set_of.Goals as goal

pub returns-in-Set-clause-inside : goal.returns-in-Set-clause-inside
returns-in-Set-clause-inside c = λ nodes inside. inside_set nodes c.args.value c.in-Set.set c.in-Set.is inside
