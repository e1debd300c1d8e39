use Rattle.xr_changing.proofs.Common.{map, new_axis, shape_over, ◌∙◌}
use Rattle.xr_changing.proofs.Formed.{sizes_new}
use Rattle.xr_changing.proofs.limits.sizes_named.Goals as goal

pub returns : goal.returns
returns c =
    let own = c.as_slice.ensures ∙ c.in_ok-own.ensures.is in
    c.in_ok-sizes.ensures ∙ (λ i. shape_over (map (new_axis c.args.changes.now) (own i))) ∙ sizes_new c.args.changes.now c.args.axes.now c.args.dims.now c.in_ok-own.ensures.there
