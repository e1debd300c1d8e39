use Rattle.std.proofs.Common.{take}
use Rattle.plan_core.specs.Plans.{Grows}
use Rattle.xr_joint.specs.Fitting.{AreFittedSets}
use Rattle.xr_joint.proofs.fitting.push_fitted.Given as goal

abbrev pub invariant-loop-set : goal.invariant-loop-set
invariant-loop-set l = record {
  fitted : AreFittedSets l.fn.plan l.plan l.joined l.fill (take l.set-index l.sets) l.fn.out l.out;
  grows : Grows l.fn.plan l.plan;
}
