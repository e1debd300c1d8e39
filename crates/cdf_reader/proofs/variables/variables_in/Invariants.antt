use Rattle.std.proofs.Common.{◌≡◌, ◌-◌, []}
use Rattle.xr_files.specs.Format.{each}
use Rattle.xr_files.specs.Classic.{variable, var_names}
use Rattle.cdf_reader.specs.Names.{Knows}
use Rattle.cdf_reader.proofs.variables.variables_in.Given as goal

abbrev pub invariant-loop : goal.invariant-loop
invariant-loop l = record {
  read : (each (l.count - l.counter) (variable l.version l.dims) l.seen).reads l.rest ≡ (each l.count (variable l.version l.dims) []).reads l.bytes;
  known : Knows l.known (var_names l.seen);
}
