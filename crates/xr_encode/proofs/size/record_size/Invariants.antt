use Rattle.std.proofs.Common.{◌≡◌, map, take, sum}
use Rattle.std.specs.List.{filter}
use Rattle.xr_files.specs.Canonical.{is_record, room}
use Rattle.cdf_writer.specs.Sizes.{capped}
use Rattle.xr_encode.proofs.size.record_size.Given as goal

abbrev pub invariant-loop-var : goal.invariant-loop-var
invariant-loop-var l = l.total ≡ capped (sum (map (room l.file) (filter (is_record l.file) (take l.var-index l.file.vars))))
