use Rattle.xr_decode.proofs.Spelled.{spelled_readable}
use Rattle.xr_decode.proofs.laws.files_are_readable.Goals as goal

pub returns-clause-spelled : goal.returns-clause-spelled
returns-clause-spelled c = spelled_readable
