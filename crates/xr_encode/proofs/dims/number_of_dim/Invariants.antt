use Rattle.std.proofs.Common.{◌≡◌, ◌+◌, drop}
use Rattle.xr_defs.specs.Encoding.{number_of_dim}
use Rattle.xr_encode.proofs.dims.number_of_dim.Given as goal

abbrev pub invariant-loop-i : goal.invariant-loop-i
invariant-loop-i l = l.i + number_of_dim (drop l.i l.dims) l.name ≡ number_of_dim l.dims l.name
