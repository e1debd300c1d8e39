use Rattle.std.proofs.Common.{◌≡◌, ◌++◌, map, drop}
use Rattle.plan_core.specs.Arrangements.{gap}
use Rattle.plan_whole.proofs.numbers.mask_of.Given as goal

abbrev pub invariant-loop-cell : goal.invariant-loop-cell
invariant-loop-cell l = l.mask.items ++ map gap (drop l.cell-index l.cells) ≡ map gap l.cells
