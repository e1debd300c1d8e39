use Rattle.xr_script.proofs.Steps.{carry, fresh_goes}
use Rattle.xr_script.specs.States.{wait_of, around_of}
use Rattle.xr_syntax.specs.Syntax.{tree_of}
use Rattle.xr_script.proofs.statement.fresh.Goals as goal

pub returns-in_default : goal.returns-in_default
returns-in_default c = carry c.after_operand.result _ _ (fresh_goes c.args.name (wait_of c.args.wait) (around_of c.args.around) (tree_of c.variable.result) c.args.token c.variable.ensures c.in_default.not-Open) c.after_operand.ensures
