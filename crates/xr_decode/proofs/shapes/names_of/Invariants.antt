use Rattle.std.proofs.Common.{◌≡◌, ◌++◌, drop, map}
use Rattle.xr_files.specs.Classic.{dim_at}
use Rattle.xr_decode.proofs.shapes.names_of.Given as goal

abbrev pub invariant-loop-id : goal.invariant-loop-id
invariant-loop-id l = l.names ++ map (λ i. (dim_at l.dims i).name) (drop l.id-index l.ids) ≡ map (λ i. (dim_at l.dims i).name) l.ids
