use Rattle.xr_run.proofs.Layers.{table_means, table_inside}
use Rattle.xr_run.proofs.eval.table_value.Goals as goal

pub returns-clause-value : goal.returns-clause-value
returns-clause-value c = λ nodes. table_means nodes c.args.entries

pub returns-clause-inside : goal.returns-clause-inside
returns-clause-inside c = λ nodes are. table_inside nodes c.args.entries are
