use Rattle.std.proofs.Common.{◌≡◌, ◌++◌, length, take}
use Rattle.std.specs.List.{flat_map}
use Rattle.xr_files.specs.Canonical.{dim_text}
use Rattle.cdf_writer.specs.Sizes.{list_front}
use Rattle.cdf_writer.proofs.text.put_dims.Given as goal

abbrev pub invariant-loop-dim : goal.invariant-loop-dim
invariant-loop-dim l = l.out.items ≡ l.fn.out.items ++ (list_front l.file.version 10 (length l.file.dims) ++ flat_map (dim_text l.file.version) (take l.dim-index l.file.dims))
