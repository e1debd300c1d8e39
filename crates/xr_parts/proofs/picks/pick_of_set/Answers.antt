use Rattle.xr_parts.proofs.Picked.{var_among, var_picked}
use Rattle.xr_parts.proofs.picks.pick_of_set.Goals as goal

pub variable_as_array-requires : goal.variable_as_array-requires
variable_as_array-requires c = var_among c.args.plan.now c.args.on.now c.args.name.now c.in-Some.variable.now c.requires c.in-Some.ensures

pub returns-in_ok-variable_as_array-in-Some-clause-answers : goal.returns-in_ok-variable_as_array-in-Some-clause-answers
returns-in_ok-variable_as_array-in-Some-clause-answers c =
    var_picked c.args.plan.now c.args.on.now c.args.name.now c.in-Some.variable.now c.requires c.in-Some.ensures c.in_ok-variable_as_array-in-Some.field-0 c.in_ok-variable_as_array-in-Some.ensures
