use Rattle.std.proofs.Common.{◌∙◌, ap}
use Rattle.xr_concat.proofs.Members.{those, those_placed}
use Rattle.xr_concat.proofs.constants.check_constant.Goals as goal

pub arrays_of-requires-clause-placed : goal.arrays_of-requires-clause-placed
arrays_of-requires-clause-placed g c = λ κs lives.
    those_placed c.args.plan.now c.args.name.now c.args.sets.now (those c.as_slice-vars.result.now) (ap those c.as_slice-vars.ensures ∙ c.in_ok-vars.ensures) c.requires.held
