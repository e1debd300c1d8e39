use Rattle.std.proofs.Common.{◌≡◌, ◌++◌, drop}
use Rattle.plan_core.specs.Takes.{parts}
use Rattle.arrangement.proofs.taking.push_parts.Given as goal

abbrev pub invariant-loop-source : goal.invariant-loop-source
invariant-loop-source g l = l.out.items ++ parts l.row (drop l.source-index l.from) l.hole l.cells ≡ l.fn.out.items ++ parts l.row l.from l.hole l.cells
