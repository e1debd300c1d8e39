use Rattle.std.proofs.Common.{◌≡◌, ◌++◌, map, drop}
use Rattle.std.specs.List.{filter}
use Rattle.xr_defs.specs.Carrying.{named_as}
use Rattle.xr_defs.specs.declared.value.Coord.{Coord}
use Rattle.xr_values.specs.Carrying.{the_attrs}
use Rattle.xr_stacking.proofs.coords.push_attrs.Given as goal

abbrev pub invariant-loop-one : goal.invariant-loop-one
invariant-loop-one l =
    the_attrs l.out ++ map (λ (d : Coord). d.attrs) (filter (named_as l.coord) (map (λ c. c.now) (drop l.one-index l.coords))) ≡ the_attrs l.fn.out ++ map (λ (d : Coord). d.attrs) (filter (named_as l.coord) (map (λ c. c.now) l.coords))
