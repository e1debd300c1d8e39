use Rattle.std.proofs.Common.{◌≡◌, map, take, not, sum}
use Rattle.std.specs.List.{filter}
use Rattle.xr_files.specs.Canonical.{is_record, room}
use Rattle.cdf_writer.specs.Sizes.{capped}
use Rattle.xr_encode.proofs.size.fixed_size.Given as goal

abbrev pub invariant-loop-var : goal.invariant-loop-var
invariant-loop-var l = l.total ≡ capped (sum (map (room l.file) (filter (λ v. not (is_record l.file v)) (take l.var-index l.file.vars))))
