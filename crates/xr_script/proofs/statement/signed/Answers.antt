use Rattle.xr_script.specs.States.{wait_of, around_of}
use Rattle.xr_script.proofs.Steps.{carry, signed_goes}
use Rattle.xr_script.proofs.statement.signed.Goals as goal

pub returns-in_default : goal.returns-in_default
returns-in_default c = carry c.negated.result _ _ (signed_goes (wait_of c.args.wait) (around_of c.args.around) c.args.token c.in_default.not-Number) c.negated.ensures
