use Rattle.std.proofs.Common.{map, refl}
use Rattle.std.specs.Prelude.{flat_map}
use Rattle.xr_combination.specs.Concat.{coord_of_all}
use Rattle.xr_values.specs.Stands.{dataset_in}
use Rattle.xr_stacking.proofs.Firsts.{on_ok, one_behind}
use Rattle.xr_stacking.proofs.coords.+push_coords.Goals as goal

pub returns-in_ok-push_of_all-in-len1-up : goal.returns-in_ok-push_of_all-in-len1-up
returns-in_ok-push_of_all-in-len1-up t c = λ nodes.
    let found = coord_of_all c.args.dim.now c.args.axes.now (map (dataset_in nodes) c.args.sets.now) in
    on_ok c.push_coords.result
    (one_behind (flat_map found) found (λ d ds. refl) c.args.out.now c.push_of_all.new.out c.push_coords.new.out c.args.coords.now c.coord-item.result c.in-len1-up.len_at_least c.coord-item.is (c.in_ok-push_of_all-in-len1-up.ensures nodes))
    (c.push_coords.ensures nodes)
