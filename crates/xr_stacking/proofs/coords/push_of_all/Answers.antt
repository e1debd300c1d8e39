use Rattle.std.proofs.Common.{[], Bor, ◌∙◌, ap, map}
use Rattle.xr_defs.specs.declared.value.Coord.{Coord}
use Rattle.xr_stacking.proofs.Whole.{those_whole}
use Rattle.xr_values.specs.Stands.{dataset_in}
use Rattle.xr_stacking.proofs.coords.push_of_all.Goals as goal

pub push_found-requires : goal.push_found-requires
push_found-requires c =
    those_whole c.args.coord.now.name (map (dataset_in []) c.args.sets.now) (map (λ (d : Bor Coord). d.now) c.as_slice-coords.result.now) (ap (map (λ (d : Bor Coord). d.now)) c.as_slice-coords.ensures ∙ c.in_ok-coords.ensures []) (c.requires [])
