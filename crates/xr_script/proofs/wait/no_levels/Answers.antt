use Rattle.std.proofs.Common.{refl}
use Rattle.xr_script.proofs.wait.no_levels.Goals as goal

pub returns : goal.returns
returns c = refl
