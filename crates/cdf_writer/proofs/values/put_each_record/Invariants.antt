use Rattle.std.proofs.Common.{◌≡◌, ◌++◌}
use Rattle.std.specs.List.{flat_map, range_with_len}
use Rattle.xr_files.specs.Canonical.{record_text, record_vars}
use Rattle.cdf_writer.proofs.values.put_each_record.Given as goal

abbrev pub invariant-loop-index : goal.invariant-loop-index
invariant-loop-index l = l.out.items ≡ l.fn.out.items ++ flat_map (λ r. flat_map (record_text l.file r) (record_vars l.file)) (range_with_len 0 l.index)
