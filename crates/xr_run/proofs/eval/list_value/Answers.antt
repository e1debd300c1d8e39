use Rattle.xr_run.proofs.Layers.{list_means, list_inside}
use Rattle.xr_run.proofs.eval.list_value.Goals as goal

pub returns-clause-value : goal.returns-clause-value
returns-clause-value c = λ nodes. list_means nodes c.args.items

pub returns-clause-inside : goal.returns-clause-inside
returns-clause-inside c = λ nodes are. list_inside nodes c.args.items are
