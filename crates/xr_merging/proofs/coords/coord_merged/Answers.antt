use Rattle.std.proofs.Common.{Bor, map, rules}
use Rattle.xr_defs.specs.declared.value.Coord.{Coord}
use Rattle.xr_values.specs.Stands.{dataset_in}
use Rattle.xr_merging.specs.Held.{held_piece, merged_piece}
use Rattle.xr_merging.proofs.Merging.{with_cells}
use Rattle.xr_merging.proofs.coords.coord_merged.Goals as goal

pub returns : goal.returns
returns c = λ nodes.
    with_cells c.args.compat c.args.axes.now (map (dataset_in nodes) c.args.sets.now) c.args.name.now (map (λ (d : Bor Coord). d.now) c.as_slice-coords.result.now) (map held_piece c.as_slice.result.now) (merged_piece c.in_ok-merged.merged) c.in_ok-of_cells.field-0
    c.in_ok-of_cells.ensures (search rules) (search rules) (search rules) c.in_ok-merged.ensures
