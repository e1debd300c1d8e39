use Rattle.std.proofs.Common.{◌∙◌, ap}
use Rattle.xr_joint.proofs.Firsts.{if_ok}
use Rattle.xr_concat.proofs.Sized.{dims_told, those}
use Rattle.xr_concat.proofs.limits.dims_called.Goals as goal

pub returns : goal.returns
returns c = λ nodes.
    if_ok c.dims_after.result
    (λ ds e.
    e
    ∙ dims_told nodes c.args.dim.now c.args.name.now c.args.sets.now c.as_slice.result.now c.first-item.result c.is_new.result c.as_slice-in-len1-up.result.now c.in-len1-up.len_at_least c.first-item.is (ap those c.as_slice.ensures ∙ c.in_ok-vars.ensures)
    (c.is_new.ensures nodes) c.as_slice-in-len1-up.ensures)
    c.dims_after.ensures
