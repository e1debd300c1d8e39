use Rattle.std.proofs.Common.{◌≡◌, drop}
use Rattle.xr_encode.specs.Rows.{has_any}
use Rattle.xr_encode.proofs.filled.has_any.Given as goal

abbrev pub invariant-loop-number : goal.invariant-loop-number
invariant-loop-number l = has_any (drop l.number-index l.numbers) l.array.cells ≡ has_any l.numbers l.array.cells
