use Rattle.std.proofs.Common.{◌≡◌, ◌+◌, drop, eqb}
use Rattle.std.specs.List.{position_or_len}
use Rattle.strided_block.proofs.axes.position.Given as goal

abbrev pub invariant-loop-i : goal.invariant-loop-i
invariant-loop-i l = l.i + position_or_len (λ o. eqb o l.axis) (drop l.i l.order) ≡ position_or_len (λ o. eqb o l.axis) l.order
