use Rattle.xr_script.proofs.Steps.{carry, begin_goes}
use Rattle.xr_script.proofs.operand.begin.Goals as goal

pub returns-in_default : goal.returns-in_default
returns-in_default c = carry c.atom.result _ _ (begin_goes c.args.token c.in_default.not-Name c.in_default.not-Print) c.atom.ensures
