use Rattle.xr_tokens.proofs.Feeds.{last_line}
use Rattle.xr_tokens.proofs.laws.lines_are_counted.Goals as goal

pub returns : goal.returns
returns c = last_line
