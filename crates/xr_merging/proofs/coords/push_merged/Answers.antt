use Rattle.std.proofs.Common.{◌∙◌, Err, ap, map}
use Rattle.std.proofs.lemmas.Result.{err_from_is_err_and}
use Rattle.xr_combination.specs.Merge.{coord_merged}
use Rattle.xr_values.specs.Stands.{dataset_in}
use Rattle.xr_merging.proofs.Each.{behind_all, behind_here, fault_here}
use Rattle.xr_merging.proofs.coords.push_merged.Goals as goal

pub returns-in_err-coord : goal.returns-in_err-coord
returns-in_err-coord c = λ nodes.
    let failed = err_from_is_err_and c.from_residual.result c.from_residual.ensures.1 in
    fault_here (coord_merged c.args.compat c.args.axes.now (map (dataset_in nodes) c.args.sets.now)) c.loop-name.out _ c.args.names.now c.loop-name.name-index c.name-item.result c.loop-name-test.true c.name-item.is (c.loop-name.invariant nodes)
    _ (λ coord. coord) c.from_residual.result c.in_err-coord.field-0.0 (failed.1 ∙ ap Err failed.2) (c.in_err-coord.ensures nodes)

pub loop-name-preserved : goal.loop-name-preserved
loop-name-preserved c = λ nodes.
    behind_here (coord_merged c.args.compat c.args.axes.now (map (dataset_in nodes) c.args.sets.now)) c.loop-name.out _ c.args.names.now c.loop-name.name-index c.name-item.result c.loop-name-test.true c.name-item.is (c.loop-name.invariant nodes)
    c.push.new.self c.in_ok-coord.coord (c.in_ok-coord.ensures nodes) c.in_ok-push.ensures.ok

pub returns : goal.returns
returns c = λ nodes. behind_all (coord_merged c.args.compat c.args.axes.now (map (dataset_in nodes) c.args.sets.now)) c.loop-name.out _ c.args.names.now c.loop-name.name-index c.loop-name-test.false (c.loop-name.invariant nodes)
