use Rattle.std.proofs.Common.{◌≡◌, ◌≤◌, length, drop}
use Rattle.xr_types.specs.Points.{size}
use Rattle.xr_files.specs.Files.{shape_of}
use Rattle.cdf_reader.specs.Sizes.{capped}
use Rattle.cdf_reader.proofs.sizes.cells_of.Given as goal

abbrev pub invariant-loop-i : goal.invariant-loop-i
invariant-loop-i l = record {
  within : l.i ≤ length l.ids;
  cells : l.cells ≡ capped (size (shape_of l.dims l.numrecs (drop l.i l.ids)));
}

abbrev pub decreases-loop-i : goal.decreases-loop-i
decreases-loop-i l = l.i
