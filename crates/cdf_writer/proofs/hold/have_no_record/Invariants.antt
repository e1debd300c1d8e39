use Rattle.std.proofs.Common.{◌≡◌, not, drop}
use Rattle.std.specs.List.{list_all}
use Rattle.xr_files.specs.Classic.{dim_at, is_record_dim}
use Rattle.cdf_writer.proofs.hold.have_no_record.Given as goal

abbrev pub invariant-loop-number : goal.invariant-loop-number
invariant-loop-number l = list_all (λ j. not (is_record_dim (dim_at l.dims j))) (drop l.number-index l.numbers) ≡ list_all (λ j. not (is_record_dim (dim_at l.dims j))) l.numbers
