use Rattle.std.proofs.Common.{◌≡◌, ◌++◌, take}
use Rattle.std.specs.List.{flat_map}
use Rattle.xr_files.specs.Canonical.{record_text, record_vars}
use Rattle.cdf_writer.proofs.values.put_record.Given as goal

abbrev pub invariant-loop-var : goal.invariant-loop-var
invariant-loop-var l = l.out.items ≡ l.fn.out.items ++ flat_map (record_text l.file l.index) (take l.var-index (record_vars l.file))
