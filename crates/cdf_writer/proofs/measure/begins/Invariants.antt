use Rattle.std.proofs.Common.{◌≡◌, ◌+◌, ◌++◌, map, drop, not, sum}
use Rattle.std.specs.List.{filter}
use Rattle.xr_files.specs.declared.file.CdfVar.{CdfVar}
use Rattle.xr_files.specs.Canonical.{is_record, placed_from, fixed_size, recsize, room}
use Rattle.cdf_writer.proofs.measure.begins.Given as goal

abbrev pub invariant-loop-var : goal.invariant-loop-var
invariant-loop-var l = record {
  places : l.places ++ map (λ x. x.1) (placed_from l.file (drop l.var-index l.file.vars) l.fixed l.records) ≡ map (λ x. x.1) (placed_from l.file l.file.vars l.fixed_from l.records_from);
  fixed : l.fixed + sum (map (room l.file) (filter (λ (v : CdfVar). not (is_record l.file v)) (drop l.var-index l.file.vars))) ≡ l.fixed_from + fixed_size l.file;
  records : l.records + sum (map (room l.file) (filter (is_record l.file) (drop l.var-index l.file.vars))) ≡ l.records_from + recsize l.file;
}
