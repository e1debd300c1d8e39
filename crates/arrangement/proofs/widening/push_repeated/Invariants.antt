use Rattle.std.proofs.Common.{◌≡◌, ◌++◌, ◌-◌}
use Rattle.plan_core.specs.Widens.{repeated}
use Rattle.arrangement.proofs.widening.push_repeated.Given as goal

abbrev pub invariant-loop : goal.invariant-loop
invariant-loop g l = l.out.items ++ repeated (l.count - l.counter) l.row ≡ l.fn.out.items ++ repeated l.count l.row
