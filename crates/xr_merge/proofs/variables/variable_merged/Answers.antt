use Rattle.std.proofs.Common.{◌∙◌, ap, subst, sym}
use Rattle.xr_joint.specs.Joint.{AllHeld}
use Rattle.xr_joint.proofs.Members.{those_held}
use Rattle.xr_merge.proofs.Overriding.{those}
use Rattle.xr_merge.proofs.variables.variable_merged.Goals as goal

pub merged_of-requires-clause-held : goal.merged_of-requires-clause-held
merged_of-requires-clause-held g c = λ κs lives.
    subst (AllHeld c.args.plan.now c.args.axes.now) (sym (ap those c.as_slice.ensures ∙ c.in_ok-vars.ensures)) (those_held c.args.plan.now c.args.axes.now c.args.name.now c.args.sets.now c.requires.over)
