use Rattle.std.proofs.Common.{◌≡◌, ◌*◌, ◌<◌, ◌^◌, drop}
use Rattle.xr_types.specs.Points.{size}
use Rattle.xr_files.specs.Files.{shape_of}
use Rattle.xr_files.specs.Canonical.{slab}
use Rattle.cdf_writer.specs.Sizes.{capped}
use Rattle.xr_encode.proofs.size.slab.Given as goal

abbrev pub invariant-loop-number : goal.invariant-loop-number
invariant-loop-number l = (capped (l.size * size (shape_of l.file.dims 1 (drop l.number-index l.var.dims))) ≡ capped (slab l.file.dims l.var)) × (l.size < 2 ^ 64)
