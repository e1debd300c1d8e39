use Rattle.std.proofs.Common.{◌≡◌, ◌++◌, not, take}
use Rattle.std.specs.List.{filter, flat_map}
use Rattle.xr_files.specs.Canonical.{is_record, with_filling}
use Rattle.cdf_writer.proofs.pieces.push_fixed.Given as goal

abbrev pub invariant-loop-var : goal.invariant-loop-var
invariant-loop-var l = l.out ≡ l.fn.out ++ flat_map (λ v. with_filling l.file v v.raw) (filter (λ v. not (is_record l.file v)) (take l.var-index l.file.vars))
