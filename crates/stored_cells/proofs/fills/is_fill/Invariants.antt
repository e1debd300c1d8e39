use Rattle.std.proofs.Common.{◌≡◌, drop}
use Rattle.xr_arrays.specs.Stored.{is_fill}
use Rattle.stored_cells.proofs.fills.is_fill.Given as goal

abbrev pub invariant-loop-fill : goal.invariant-loop-fill
invariant-loop-fill l = is_fill (drop l.fill-index l.fills) l.n ≡ is_fill l.fills l.n
