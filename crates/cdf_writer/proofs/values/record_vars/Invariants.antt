use Rattle.std.proofs.Common.{◌≡◌, map, take}
use Rattle.std.specs.List.{filter}
use Rattle.xr_files.specs.Canonical.{is_record}
use Rattle.cdf_writer.proofs.values.record_vars.Given as goal

abbrev pub invariant-loop-var : goal.invariant-loop-var
invariant-loop-var l = map (λ v. v.now) l.vars.items ≡ filter (is_record l.file) (take l.var-index l.file.vars)
