use Rattle.std.proofs.Common.{◌≡◌, ◌<◌, ◌++◌, length, drop}
use Rattle.xr_types.specs.Points.{size}
use Rattle.strided_block.specs.Zips.{point_at}
use Rattle.strided_block.proofs.zip.point_of.Given as goal

abbrev pub invariant-loop-axis : goal.invariant-loop-axis
invariant-loop-axis l = (l.point ++ point_at (drop l.axis l.sizes) l.left ≡ point_at l.sizes l.fn.at) × (l.left < size (drop l.axis l.sizes)) × (length l.point ≡ l.axis)
