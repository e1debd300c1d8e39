use Rattle.strided_block.proofs.Steps.{round_size}
use Rattle.strided_block.proofs.place.+rounded.Goals as goal

pub returns-in-len1-up : goal.returns-in-len1-up
returns-in-len1-up t c = round_size c.args.shape.now c.rounded.result c.in-len1-up.len_at_least c.rounded.ensures
