use Rattle.xr_merge.proofs.joint.joined_by_name.Goals as goal

pub returns-clause-sound : goal.returns-clause-sound
returns-clause-sound g c = c.in_ok-coords.ensures.sound c.args.plan.now c.requires.open
