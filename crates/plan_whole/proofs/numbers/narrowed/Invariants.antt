use Rattle.std.proofs.Common.{◌≡◌, ◌++◌, map, drop}
use Rattle.plan_core.specs.Arrangements.{filling}
use Rattle.plan_whole.proofs.numbers.narrowed.Given as goal

abbrev pub invariant-loop-i : goal.invariant-loop-i
invariant-loop-i g l = map g.T.Elem.number l.all.items ++ map filling (drop l.i l.cells) ≡ map filling l.cells
