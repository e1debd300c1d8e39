use Rattle.xr_parts.proofs.Picked.{coord_means, index_formed}
use Rattle.xr_parts.proofs.picks.part_called.Goals as goal

pub returns-in-Some : goal.returns-in-Some
returns-in-Some c = coord_means c.args.axes.now c.args.coords.now c.requires c.args.skipped.now c.args.name.now c.in-Some.coord.now c.in_ok-copy_coord.field-0 c.in-Some.ensures c.in_ok-copy_coord.ensures

pub index_coord-requires : goal.index_coord-requires
index_coord-requires c = index_formed c.args.axes.now c.args.coords.now c.requires c.args.name.now c.in-Some-find_index.axis.now c.in-Some-find_index.ensures
