use Rattle.std.proofs.Common.{◌≡◌, ◌+◌, ◌*◌, length, refl, ap, sym, ◌∙◌, arith}
use Rattle.xr_files.specs.Canonical.{attr_text, list_text, name_text}
use Rattle.cdf_writer.specs.Sizes.{capped, count_bytes, place_bytes}
use Rattle.cdf_writer.proofs.Lengths.{var_length}
use Rattle.cdf_writer.proofs.size.var_size.Goals as goal

pub returns : goal.returns
returns c =
    let v = c.args.var.now in
    let version = c.args.file.now.version in
    let numbers : length c.as_slice.result.now ≡ length v.dims = ap length c.as_slice.ensures in
    let count : length c.as_slice.result.now * c.count_bytes-count.result ≡ length v.dims * count_bytes version = rw (numbers, c.count_bytes-count.ensures) refl in
    let attrs : c.attrs_size.result ≡ capped (length (list_text version 12 (attr_text version) v.attrs)) = cc in
    let parts : c.saturating_add-2.result ≡ capped (length (name_text version v.name) + (length v.dims * count_bytes version + (length (list_text version 12 (attr_text version) v.attrs) + (4 + 2 * count_bytes version + place_bytes version)))) = omega arith in
    parts ∙ sym (ap capped (var_length version c.args.file.now.dims v 0))
