use Rattle.std.proofs.Common.{◌≡◌, sum, map, get_or, take}
use Rattle.row_concat.proofs.join.positions.Given as goal

abbrev pub invariant-loop-a : goal.invariant-loop-a
invariant-loop-a l = l.total ≡ sum (map (λ b. get_or b.now.shape l.axis 0) (take l.a-index l.inputs))
