use Rattle.xr_syntax.specs.Syntax.{tree_of}
use Rattle.xr_script.proofs.Steps.{carry, after_goes}
use Rattle.xr_script.specs.States.{wait_of, around_of}
use Rattle.xr_script.proofs.after.after_operand.Goals as goal

pub returns-in_default : goal.returns-in_default
returns-in_default c = carry c.end_operand.result _ _ (after_goes (wait_of c.args.wait) (around_of c.args.around) (tree_of c.args.e) c.args.token c.in_default.not-Dot c.in_default.not-Left c.in_default.not-Oper c.in_default.not-Minus c.in_default.not-Compare) c.end_operand.ensures
