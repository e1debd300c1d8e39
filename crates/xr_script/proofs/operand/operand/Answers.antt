use Rattle.xr_script.proofs.Steps.{carry, operand_goes}
use Rattle.xr_script.specs.States.{wait_of, around_of}
use Rattle.xr_script.proofs.operand.operand.Goals as goal

pub returns-in_default : goal.returns-in_default
returns-in_default c = carry c.atom.result _ _ (operand_goes (wait_of c.args.wait) (around_of c.args.around) c.args.token c.in_default.not-Name c.in_default.not-Minus c.in_default.not-Tilde) c.atom.ensures
