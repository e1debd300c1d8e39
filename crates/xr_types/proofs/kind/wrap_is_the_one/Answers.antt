use Rattle.xr_types.proofs.Wrapping.{wrapped_is, wrapped_only}
use Rattle.xr_types.proofs.kind.wrap_is_the_one.Goals as goal

pub returns-clause-is : goal.returns-clause-is
returns-clause-is c = wrapped_is

pub returns-clause-only : goal.returns-clause-only
returns-clause-only c = wrapped_only
