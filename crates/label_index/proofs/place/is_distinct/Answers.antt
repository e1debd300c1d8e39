use Rattle.label_index.proofs.Hashing.{placed_once}
use Rattle.label_index.proofs.place.is_distinct.Goals as goal

pub returns-in-Hashed : goal.returns-in-Hashed
returns-in-Hashed c = placed_once c.args.list.now c.args.places.now _ c.in-Hashed.is c.requires
