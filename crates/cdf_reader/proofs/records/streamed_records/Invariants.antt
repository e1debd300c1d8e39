use Rattle.std.proofs.Common.{◌≤◌, length, drop, map}
use Rattle.xr_files.specs.Files.{records_in, record_vars}
use Rattle.cdf_reader.specs.Parts.{header_of}
use Rattle.cdf_reader.specs.Fewest.{IsLeast}
use Rattle.cdf_reader.proofs.records.streamed_records.Given as goal

abbrev pub invariant-loop-i : goal.invariant-loop-i
invariant-loop-i l = record {
  within : l.i ≤ length l.vars;
  fewest : IsLeast l.fewest (map (records_in (header_of l.parts) l.bytes) (record_vars l.dims (drop l.i l.vars)));
}

abbrev pub decreases-loop-i : goal.decreases-loop-i
decreases-loop-i l = l.i
