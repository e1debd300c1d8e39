use Rattle.xr_script.proofs.Steps.{carry, name_goes}
use Rattle.xr_script.specs.States.{head_of, pend_for, around_for}
use Rattle.xr_syntax.specs.Syntax.{all_arguments}
use Rattle.xr_script.proofs.place.at_name.Goals as goal

pub returns-in_default : goal.returns-in_default
returns-in_default c = carry c.name_operand.result _ _ (name_goes (pend_for c.args.head c.args.seat) (around_for c.args.head c.args.seat) (head_of c.args.head) (all_arguments c.args.args.list.items) c.args.name c.args.token c.in_default.not-Is c.in_default.not-Open) c.name_operand.ensures
