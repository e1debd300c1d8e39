use Rattle.xr_aligning.proofs.Sized.{array_answered, set_answered}
use Rattle.xr_aligning.proofs.sizes.is_coming_within.Goals as goal

pub returns-in-Array : goal.returns-in-Array
returns-in-Array c = λ nodes fill. array_answered nodes fill c.args.coming.now c.in-Array.array c.change_of-change.result.joined.now c.array_within.result c.in-Array.is c.change_of-change.ensures.joined (c.array_within.ensures fill)

pub returns-in-Set : goal.returns-in-Set
returns-in-Set c = λ nodes fill. set_answered nodes fill c.args.coming.now c.in-Set.set c.change_of-change.result.joined.now c.set_within.result c.in-Set.is c.change_of-change.ensures.joined c.requires (c.set_within.ensures fill)
