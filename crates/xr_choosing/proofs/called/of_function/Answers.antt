use Rattle.xr_choosing.proofs.Operated.{function_answers}
use Rattle.xr_choosing.proofs.called.of_function.Goals as goal

pub returns : goal.returns
returns c = λ nodes is first second. function_answers nodes c.args.cond.now c.args.x c.args.y c.chosen.result (c.chosen.ensures nodes is first second)
