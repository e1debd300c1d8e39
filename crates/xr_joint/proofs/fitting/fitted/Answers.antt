use Rattle.xr_joint.proofs.SetsFitted.{set_fitted_from}
use Rattle.xr_joint.proofs.fitting.fitted.Goals as goal

pub returns-clause-fitted : goal.returns-clause-fitted
returns-clause-fitted c =
    set_fitted_from c.args.plan.now c.put_vars.new.plan c.args.joined.now c.as_slice-own.result.now c.args.fill c.args.set.now
    (record { axes = c.in_ok-axes.axes; coords = c.in_ok-coords.coords; vars = c.put_vars.new.out; attrs = c.in_ok-attrs.attrs; skipped = c.in_ok-skipped.skipped }) c.as_slice-2.result.now c.as_slice-3.result.now
    c.new-vars.result c.new-vars.ensures c.as_slice-own.ensures c.as_slice-2.ensures c.as_slice-3.ensures.variables c.as_slice-3.ensures.distinct c.in_ok-put_vars.ensures.put c.in_ok-axes.ensures c.in_ok-coords.ensures c.requires.coords c.in_ok-attrs.ensures
    c.in_ok-skipped.ensures
