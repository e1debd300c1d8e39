use Rattle.xr_tokens.proofs.Munch.{front_spelled, as_long}
use Rattle.xr_tokens.proofs.laws.front_is_the_longest.Goals as goal

pub returns-clause-spelled : goal.returns-clause-spelled
returns-clause-spelled c = front_spelled

pub returns-clause-longest : goal.returns-clause-longest
returns-clause-longest c spelled behind token h = as_long h behind
