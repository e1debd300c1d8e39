use Rattle.std.proofs.Common.{map}
use Rattle.xr_values.specs.Stands.{dataset_in}
use Rattle.xr_joint.proofs.Over.{coords_formed}
use Rattle.xr_merge.proofs.Sound.{coords_sound}
use Rattle.xr_merge.proofs.joint.joined_coords.Goals as goal

pub returns-clause-sound : goal.returns-clause-sound
returns-clause-sound c = λ nodes opened.
    coords_sound c.args.compat c.args.axes.now (map (dataset_in nodes) c.args.over.now) c.as_slice.result.now c.in_ok-coords.coords (coords_formed nodes c.args.over.now opened) (c.in_ok-coords.ensures nodes)
