use Rattle.std.proofs.Common.{◌∙◌, ap, map}
use Rattle.std.specs.List.{list_all}
use Rattle.xr_values.specs.Stands.{dataset_in}
use Rattle.xr_joint.proofs.Firsts.{if_ok}
use Rattle.xr_concat.specs.Limits.{is_within_called}
use Rattle.xr_concat.proofs.Sized.{first_names}
use Rattle.xr_concat.proofs.limits.are_variables_within.Goals as goal

pub returns-in-len1-up : goal.returns-in-len1-up
returns-in-len1-up c = λ nodes.
    if_ok c.each_within.result
    (λ b e.
    e
    ∙ ap (list_all (is_within_called c.args.axes.now c.args.dim.now (map (dataset_in nodes) c.args.sets.now)))
    (first_names nodes c.args.sets.now c.first-item.result c.as_slice.result.now c.in-len1-up.len_at_least c.first-item.is c.as_slice.ensures.variables))
    (c.each_within.ensures nodes)
