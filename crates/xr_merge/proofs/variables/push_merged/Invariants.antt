use Rattle.std.proofs.Common.{◌≡◌, map, drop}
use Rattle.xr_combination.specs.Merge.{variable_merged}
use Rattle.xr_combination.specs.Pieces.{each_of}
use Rattle.xr_values.specs.Stands.{dataset_in}
use Rattle.xr_merging.specs.Each.{behind}
use Rattle.xr_joint.specs.Joint.{joint_in, AreReady}
use Rattle.xr_merge.proofs.variables.push_merged.Given as goal

abbrev pub invariant-loop-name : goal.invariant-loop-name
invariant-loop-name g l = record {
  answers :
      behind (map (joint_in l.plan) l.out) (each_of (variable_merged l.compat (map (dataset_in l.plan) l.sets)) (drop l.name-index l.names))
      ≡ behind (map (joint_in l.plan) l.fn.out) (each_of (variable_merged l.compat (map (dataset_in l.plan) l.sets)) l.names);
  ready : AreReady l.plan l.axes l.out;
}
