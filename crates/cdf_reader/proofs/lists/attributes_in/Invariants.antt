use Rattle.std.proofs.Common.{◌≡◌, ◌-◌, []}
use Rattle.xr_files.specs.Format.{each}
use Rattle.xr_files.specs.Classic.{attribute, attr_names}
use Rattle.cdf_reader.specs.Names.{Knows}
use Rattle.cdf_reader.proofs.lists.attributes_in.Given as goal

abbrev pub invariant-loop : goal.invariant-loop
invariant-loop l = record {
  read : (each (l.count - l.counter) (attribute l.version) l.seen).reads l.rest ≡ (each l.count (attribute l.version) []).reads l.bytes;
  known : Knows l.known (attr_names l.seen);
}
