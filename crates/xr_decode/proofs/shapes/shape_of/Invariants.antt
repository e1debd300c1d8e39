use Rattle.std.proofs.Common.{◌≡◌, ◌++◌, drop}
use Rattle.xr_files.specs.Files.{shape_of}
use Rattle.xr_decode.proofs.shapes.shape_of.Given as goal

abbrev pub invariant-loop-id : goal.invariant-loop-id
invariant-loop-id l = l.shape ++ shape_of l.dims l.numrecs (drop l.id-index l.ids) ≡ shape_of l.dims l.numrecs l.ids
