use Rattle.xr_arguments.proofs.Inside.{held_array, held_set}
use Rattle.std.proofs.Common.{refl}
use Rattle.dataset_core.proofs.grouped.grouping.Goals as goal

pub array_in_groups-requires : goal.array_in_groups-requires
array_in_groups-requires c = (c.requires.0, held_array c.requires.0 c.args.on.now c.in-Array.array c.in-Array.array.value c.in-Array.is refl c.requires.1)

pub set_in_groups-requires : goal.set_in_groups-requires
set_in_groups-requires c = (c.requires.0, held_set c.requires.0 c.args.on.now c.in-Set.set c.in-Set.set.value c.in-Set.is refl c.requires.1)
