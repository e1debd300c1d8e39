use Rattle.std.proofs.Common.{◌∙◌, Err, ap, map}
use Rattle.std.proofs.lemmas.Result.{err_from_is_err_and}
use Rattle.xr_combination.specs.Merge.{variable_merged}
use Rattle.xr_values.specs.Stands.{dataset_in}
use Rattle.xr_aligning.proofs.Loops.{all_hold, one_mapped}
use Rattle.xr_merging.proofs.Each.{behind_all, behind_here, fault_here}
use Rattle.xr_joint.specs.Joint.{joint_in, IsReady}
use Rattle.xr_merge.proofs.variables.push_merged.Goals as goal

pub returns-in_err-var-clause-answers : goal.returns-in_err-var-clause-answers
returns-in_err-var-clause-answers g c =
    let nodes = c.args.plan.now in
    let failed = err_from_is_err_and c.from_residual.result c.from_residual.ensures.1 in
    fault_here (variable_merged c.args.compat (map (dataset_in nodes) c.args.sets.now)) (map (joint_in nodes) c.loop-name.out) _ c.args.names.now c.loop-name.name-index c.name-item.result c.loop-name-test.true c.name-item.is c.loop-name.invariant.answers
    _ (joint_in nodes) c.from_residual.result c.in_err-var.field-0.0 (failed.1 ∙ ap Err failed.2) c.in_err-var.ensures.answers

pub loop-name-preserved : goal.loop-name-preserved
loop-name-preserved g c =
    let nodes = c.args.plan.now in
    let out = c.loop-name.out in
    let next = c.push.new.self in
    let var = c.in_ok-var.var in
    let pushed = c.in_ok-push.ensures.ok in
    record {
      answers =
          behind_here (variable_merged c.args.compat (map (dataset_in nodes) c.args.sets.now)) (map (joint_in nodes) out) _ c.args.names.now c.loop-name.name-index c.name-item.result c.loop-name-test.true c.name-item.is c.loop-name.invariant.answers
          (map (joint_in nodes) next) (joint_in nodes var) c.in_ok-var.ensures.answers (one_mapped out next var pushed (joint_in nodes));
      ready = all_hold out next var pushed (IsReady nodes c.args.axes.now) c.loop-name.invariant.ready c.in_ok-var.ensures.ready;
    }

pub returns-clause-answers : goal.returns-clause-answers
returns-clause-answers g c =
    let nodes = c.args.plan.now in
    behind_all (variable_merged c.args.compat (map (dataset_in nodes) c.args.sets.now)) (map (joint_in nodes) c.loop-name.out) _ c.args.names.now c.loop-name.name-index c.loop-name-test.false c.loop-name.invariant.answers
