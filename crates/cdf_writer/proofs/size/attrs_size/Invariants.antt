use Rattle.std.proofs.Common.{◌≡◌, ◌+◌, length, take}
use Rattle.std.specs.List.{flat_map}
use Rattle.xr_files.specs.Canonical.{attr_text}
use Rattle.cdf_writer.specs.Sizes.{capped, count_bytes}
use Rattle.cdf_writer.proofs.size.attrs_size.Given as goal

abbrev pub invariant-loop-attr : goal.invariant-loop-attr
invariant-loop-attr l = l.total ≡ capped (4 + count_bytes l.version + length (flat_map (attr_text l.version) (take l.attr-index l.attrs)))
