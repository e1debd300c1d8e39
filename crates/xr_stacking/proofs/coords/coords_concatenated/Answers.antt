use Rattle.std.proofs.Common.{map}
use Rattle.xr_combination.specs.Concat.{coord_of_all}
use Rattle.xr_values.specs.Stands.{dataset_in}
use Rattle.xr_stacking.proofs.Whole.{first_found}
use Rattle.xr_stacking.proofs.coords.coords_concatenated.Goals as goal

pub returns-in_ok-push_coords-in-len1-up : goal.returns-in_ok-push_coords-in-len1-up
returns-in_ok-push_coords-in-len1-up c = λ nodes.
    first_found nodes (coord_of_all c.args.dim.now c.args.axes.now (map (dataset_in nodes) c.args.sets.now)) c.args.sets.now c.first-item.result c.as_slice.result.now c.new-out.result c.push_coords.new.out
    c.in-len1-up.len_at_least c.first-item.is c.new-out.ensures c.as_slice.ensures (c.in_ok-push_coords-in-len1-up.ensures nodes)
