use Rattle.xr_values.specs.Stands.{dataset_in}
use Rattle.xr_chaining.proofs.Called.{more_called}
use Rattle.xr_chaining.proofs.joining.+push_called.Goals as goal

pub returns-in_ok-push_found-in-len1-up : goal.returns-in_ok-push_found-in-len1-up
returns-in_ok-push_found-in-len1-up t c = λ nodes.
    more_called c.push_called.result c.args.name.now (dataset_in nodes) c.args.out.now c.push_found.new.out c.push_called.new.out c.args.sets.now c.set-item.result c.in-len1-up.len_at_least c.set-item.is
    (c.in_ok-push_found-in-len1-up.ensures nodes) (c.push_called.ensures nodes)
