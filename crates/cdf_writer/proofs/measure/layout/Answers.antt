use Rattle.std.proofs.Common.{◌≡◌, ◌+◌, ◌*◌, ◌-◌, ◌^◌, min, true, sym, ap, ◌∙◌, arith}
use Rattle.std.proofs.Math.Nat.{mul_comm}
use Rattle.xr_files.specs.Canonical.{can_hold, recsize, fixed_size, header_size}
use Rattle.cdf_writer.proofs.Whole.{canonical_length}
use Rattle.cdf_writer.proofs.measure.layout.Goals as goal

pub returns-clause-length : goal.returns-clause-length
returns-clause-length c =
    let f = c.args.file.now in
    let can : can_hold f ≡ true = cc in
    let each : c.record_size-recsize.result ≡ recsize f = omega arith in
    let records : c.saturating_mul-records.result ≡ min (f.numrecs * recsize f) (2 ^ 64 - 1) = c.saturating_mul-records.ensures ∙ ap (λ n. min (n * f.numrecs) (2 ^ 64 - 1)) each ∙ ap (λ n. min n (2 ^ 64 - 1)) (mul_comm (recsize f) f.numrecs) in
    let size : c.saturating_add-length.result ≡ header_size f + fixed_size f + f.numrecs * recsize f = omega (arith, records) in
    size ∙ sym (canonical_length f c.requires can)
