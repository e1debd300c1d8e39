use Rattle.xr_run.specs.Words.{script_word}
use Rattle.xr_run.proofs.top.run.Goals as goal

pub returns-in_default-clause-line : goal.returns-in_default-clause-line
returns-in_default-clause-line g c = λ t. c.say_no_memory.ensures.line (script_word c.args.words.now) t

pub returns-in_default-status_line-clause-line : goal.returns-in_default-status_line-clause-line
returns-in_default-status_line-clause-line g c = λ t. c.say_no_memory-in_default-status_line.ensures.line (script_word c.args.words.now) t
