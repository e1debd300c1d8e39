use Rattle.std.proofs.Common.{take}
use Rattle.plan_core.specs.Plans.{Grows}
use Rattle.xr_joint.specs.Joint.{ArePlaced}
use Rattle.xr_joint.proofs.dataset.push_placed.Given as goal

abbrev pub invariant-loop-merged : goal.invariant-loop-merged
invariant-loop-merged l = record {
  placed : ArePlaced l.fn.plan l.plan (take l.merged-index l.vars) l.fn.out l.out;
  grows : Grows l.fn.plan l.plan;
}
