use Rattle.std.proofs.Common.{◌≡◌, ◌+◌, length, take}
use Rattle.std.specs.List.{flat_map}
use Rattle.xr_files.specs.Canonical.{dim_text}
use Rattle.cdf_writer.specs.Sizes.{capped, count_bytes}
use Rattle.cdf_writer.proofs.size.dims_size.Given as goal

abbrev pub invariant-loop-dim : goal.invariant-loop-dim
invariant-loop-dim l = l.total ≡ capped (4 + count_bytes l.version + length (flat_map (dim_text l.version) (take l.dim-index l.dims)))
