use Rattle.std.proofs.Common.{◌∙◌, ap, Bor}
use Rattle.xr_types.specs.declared.axis.Axis.{Axis}
use Rattle.xr_defs.specs.Selecting.{axis_called}
use Rattle.xr_defs.specs.Values as of
use Rattle.xr_values.specs.Stands.{dataset_in}
use Rattle.xr_chaining.proofs.Firsts.{more_told}
use Rattle.xr_chaining.proofs.joining.+push_along.Goals as goal

pub returns-in_ok-push-in-len1-up : goal.returns-in_ok-push-in-len1-up
returns-in_ok-push-in-len1-up t c = λ nodes.
    more_told c.push_along.result c.args.out.now c.push.new.self c.push_along.new.out c.in_ok-axis-in-len1-up.axis c.args.sets.now c.set-item.result c.in-len1-up.len_at_least c.set-item.is c.in_ok-push-in-len1-up.ensures.ok
    (λ (x : Bor Axis). x.now) (dataset_in nodes) (λ (s : of.Dataset). axis_called s.axes c.args.dim.now) (c.in_ok-axis-in-len1-up.ensures ∙ ap (λ xs. axis_called xs c.args.dim.now) c.as_slice.ensures) (c.push_along.ensures nodes)
