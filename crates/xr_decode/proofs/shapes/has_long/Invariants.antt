use Rattle.std.proofs.Common.{◌≡◌, drop, nat_lt}
use Rattle.std.specs.List.{list_any}
use Rattle.xr_files.specs.Files.{shape_of}
use Rattle.xr_defs.specs.Limits.{most_cells}
use Rattle.xr_decode.proofs.shapes.has_long.Given as goal

abbrev pub invariant-loop-id : goal.invariant-loop-id
invariant-loop-id l = list_any (nat_lt most_cells) (shape_of l.dims l.numrecs (drop l.id-index l.ids)) ≡ list_any (nat_lt most_cells) (shape_of l.dims l.numrecs l.ids)
