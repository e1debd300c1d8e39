use Rattle.std.proofs.Common.{◌∙◌, ap, sym}
use Rattle.xr_types.specs.Results.{unless}
use Rattle.xr_types.specs.declared.fault.Fault.TheVariants.{NotMonotonic}
use Rattle.xr_combination.specs.Combine.{check_direction}
use Rattle.xr_tiling.proofs.directions.check_direction.Goals as goal

pub returns-then-goes : goal.returns-then-goes
unfolding check_direction unless
returns-then-goes c = λ nodes. ap (λ b. unless b NotMonotonic) (sym (c.goes.ensures nodes) ∙ c.if-goes.true)

pub returns-else-goes : goal.returns-else-goes
unfolding check_direction unless
returns-else-goes c = λ nodes. ap (λ b. unless b NotMonotonic) (sym (c.goes.ensures nodes) ∙ c.if-goes.false)
