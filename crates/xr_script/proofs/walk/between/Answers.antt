use Rattle.xr_script.specs.Progress.{lines_of}
use Rattle.xr_script.proofs.Runs.{between_moves}
use Rattle.xr_script.proofs.walk.between.Goals as goal

pub returns-in_default : goal.returns-in_default
returns-in_default c = between_moves c.settle.result (lines_of c.args.statements.items) c.args.token c.in_default.not-End (c.settle.ensures _ c.begin.ensures)
