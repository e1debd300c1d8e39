use Rattle.std.proofs.Common.{◌≡◌, ◌++◌, length, drop}
use Rattle.strided_block.specs.Steps.{row_steps}
use Rattle.strided_block.proofs.place.steps_of.Given as goal

abbrev pub invariant-loop-axis : goal.invariant-loop-axis
invariant-loop-axis l = (l.steps ++ row_steps (drop l.axis l.sizes) ≡ row_steps l.sizes) × (length l.steps ≡ l.axis)
