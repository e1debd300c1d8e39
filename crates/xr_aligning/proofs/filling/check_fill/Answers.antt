use Rattle.xr_aligning.proofs.Holes.{set_checked}
use Rattle.xr_aligning.proofs.filling.check_fill.Goals as goal

pub returns-in-Set : goal.returns-in-Set
returns-in-Set c = λ nodes others. set_checked others c.args.coming.now c.in-Set.set c.change_of-change.result.joined.now _ c.check_set.result c.in-Set.is c.change_of-change.ensures.joined (c.check_set.ensures nodes others)
