use Rattle.std.proofs.Common.{◌≡◌, ◌+◌, length, map, take}
use Rattle.std.specs.List.{flat_map}
use Rattle.xr_files.specs.Canonical.{var_text}
use Rattle.cdf_writer.specs.Sizes.{capped, count_bytes}
use Rattle.cdf_writer.proofs.size.vars_size.Given as goal

abbrev pub invariant-loop-var : goal.invariant-loop-var
invariant-loop-var l = l.total ≡ capped (4 + count_bytes l.file.version + length (flat_map (var_text l.file.version l.file.dims) (map (λ v. (v, 0)) (take l.var-index l.file.vars))))
