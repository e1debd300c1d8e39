use Rattle.std.proofs.Common.{◌≡◌, ◌-◌, []}
use Rattle.xr_files.specs.Format.{each}
use Rattle.xr_files.specs.Classic.{dimension, dim_names}
use Rattle.cdf_reader.specs.Names.{Knows}
use Rattle.cdf_reader.proofs.lists.dimensions_in.Given as goal

abbrev pub invariant-loop : goal.invariant-loop
invariant-loop l = record {
  read : (each (l.count - l.counter) (dimension l.version) l.seen).reads l.rest ≡ (each l.count (dimension l.version) []).reads l.bytes;
  known : Knows l.known (dim_names l.seen);
}
