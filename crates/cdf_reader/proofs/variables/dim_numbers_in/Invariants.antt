use Rattle.std.proofs.Common.{◌≡◌, ◌-◌, []}
use Rattle.xr_files.specs.Format.{each}
use Rattle.xr_files.specs.Classic.{dim_number}
use Rattle.cdf_reader.proofs.variables.dim_numbers_in.Given as goal

abbrev pub invariant-loop : goal.invariant-loop
invariant-loop l = (each (l.rank - l.counter) (dim_number l.version l.dims) l.seen).reads l.rest ≡ (each l.rank (dim_number l.version l.dims) []).reads l.bytes
