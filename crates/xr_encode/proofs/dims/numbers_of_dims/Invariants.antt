use Rattle.std.proofs.Common.{◌≡◌, ◌++◌, map, drop}
use Rattle.xr_defs.specs.Encoding.{number_of_dim}
use Rattle.xr_encode.proofs.dims.numbers_of_dims.Given as goal

abbrev pub invariant-loop-name : goal.invariant-loop-name
invariant-loop-name l = l.ids ++ map (number_of_dim l.dims) (drop l.name-index l.names) ≡ map (number_of_dim l.dims) l.names
