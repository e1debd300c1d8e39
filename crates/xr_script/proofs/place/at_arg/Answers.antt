use Rattle.xr_script.proofs.Steps.{carry, arg_goes}
use Rattle.xr_script.specs.States.{head_of, pend_for, around_for}
use Rattle.xr_syntax.specs.Syntax.{all_arguments}
use Rattle.xr_script.proofs.place.at_arg.Goals as goal

pub returns-in_default : goal.returns-in_default
returns-in_default c = carry c.arg_operand.result _ _ (arg_goes (pend_for c.args.head c.args.seat) (around_for c.args.head c.args.seat) (head_of c.args.head) (all_arguments c.args.args.list.items) c.args.token c.in_default.not-Close c.in_default.not-Name) c.arg_operand.ensures
