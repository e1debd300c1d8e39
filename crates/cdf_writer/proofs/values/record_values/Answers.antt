use Rattle.std.proofs.Common.{◌≡◌, ◌*◌, ◌/◌, length, take, drop, ap, ◌∙◌, arith}
use Rattle.std.proofs.Math.Nat.{mul-div_cancel_left}
use Rattle.xr_files.specs.Canonical.{slab}
use Rattle.cdf_writer.proofs.values.record_values.Goals as goal

pub returns : goal.returns
returns c =
    let n = c.args.file.now.numrecs in
    let s = slab c.args.file.now.dims c.args.var.now in
    let size : length c.as_slice-raw.result.now / n ≡ s = ap (λ l. length l / n) c.as_slice-raw.ensures ∙ ap (λ k. k / n) c.requires.size ∙ mul-div_cancel_left s (omega arith) in
    c.split_at-2.ensures.front ∙ ap (λ k. take k c.split_at.result.1.now) size ∙ ap (take s) c.split_at.ensures.back
    ∙ ap (λ k. take s (drop (c.args.index * k) c.as_slice-raw.result.now)) size ∙ ap (λ l. take s (drop (c.args.index * s) l)) c.as_slice-raw.ensures
