use Rattle.xr_script.proofs.Steps.{carry, index_goes}
use Rattle.xr_script.proofs.statement.named_index.Goals as goal

pub returns-in_default : goal.returns-in_default
returns-in_default c = carry c.indexed.result _ _ (index_goes c.args.name c.args.key c.args.token c.in_default.not-Is) c.indexed.ensures
