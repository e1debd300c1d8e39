use Rattle.std.proofs.Common.{◌∙◌, map}
use Rattle.xr_values.specs.Stands.{dataset_in}
use Rattle.xr_joint.proofs.Firsts.{if_ok}
use Rattle.xr_concat.proofs.Sized.{one_wide, rest_within}
use Rattle.xr_concat.proofs.limits.+each_within.Goals as goal

pub returns-then-not-branch : goal.returns-then-not-branch
returns-then-not-branch t c = λ nodes.
    one_wide nodes c.args.axes.now c.args.dim.now (map (dataset_in nodes) c.args.sets.now) c.args.vars.now c.var-item.result c.in-len1-up.len_at_least c.var-item.is c.in_ok-is_within_called-in-len1-up.field-0 (c.in_ok-is_within_called-in-len1-up.ensures nodes)
    c.if-not-branch.true

pub returns-else-not-branch : goal.returns-else-not-branch
returns-else-not-branch t c = λ nodes.
    if_ok c.each_within.result
    (λ b e.
    e
    ∙ rest_within nodes c.args.axes.now c.args.dim.now (map (dataset_in nodes) c.args.sets.now) c.args.vars.now c.var-item.result c.in-len1-up.len_at_least c.var-item.is c.in_ok-is_within_called-in-len1-up.field-0
    (c.in_ok-is_within_called-in-len1-up.ensures nodes) c.if-not-branch.false)
    (c.each_within.ensures nodes)
