use Rattle.std.proofs.Common.{◌-◌, ◌/◌, ℕ, ap, ◌∙◌}
use Rattle.xr_files.specs.Files.{head_size, recsize}
use Rattle.cdf_reader.proofs.Counted.{records_counted}
use Rattle.cdf_reader.proofs.records.records_in_bytes.Goals as goal

pub returns-in-Some : goal.returns-in-Some
returns-in-Some c = λ h v begin size distance.
    let end = c.saturating_add-end.result in
    records_counted c.args.bytes v.begin (head_size h.dims v) (recsize h) end c.in-Some.more c.requires (rw (begin, size) at c.saturating_add-end.ensures) c.if-bytes-end.false (c.in-Some.ensures.1 ∙ ap (λ (d : ℕ). (c.args.bytes - end) / d) distance)
