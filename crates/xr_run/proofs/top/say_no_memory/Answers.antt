use Rattle.std.proofs.Common.{refl}
use Rattle.xr_types.specs.declared.status.Status.TheVariants.{NoMemory}
use Rattle.xr_run.proofs.Broken.{line_broken}
use Rattle.xr_run.proofs.top.say_no_memory.Goals as goal

pub returns-in-Err-clause-line : goal.returns-in-Err-clause-line
returns-in-Err-clause-line g c = λ script t. line_broken script _ _ _ _ _ NoMemory NoMemory refl c.in-Err.ensures.counted.0 (c.in-Err.ensures.err t)
