use Rattle.std.proofs.Common.{◌≡◌, ◌≤◌, length, take}
use Rattle.std.specs.List.{filter}
use Rattle.xr_files.specs.Canonical.{is_record}
use Rattle.xr_encode.proofs.size.has_lone_record.Given as goal

abbrev pub invariant-loop-var : goal.invariant-loop-var
invariant-loop-var l = (l.count ≡ length (filter (is_record l.file) (take l.var-index l.file.vars))) × (l.count ≤ l.var-index)
