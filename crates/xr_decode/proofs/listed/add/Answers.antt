use Rattle.xr_decode.proofs.ListedNames.{listed_more}
use Rattle.xr_decode.proofs.listed.add.Goals as goal

pub returns : goal.returns
returns c = listed_more c.args.listed.now c.insert.new.self c.args.text.now c.in_ok-insert.ensures.updates
