use Rattle.std.proofs.Common.{◌≡◌, ◌++◌, ◌-◌, ◌*◌, length}
use Rattle.plan_core.specs.Takes.{each_block}
use Rattle.plan_core.specs.Widens.{repeated}
use Rattle.arrangement.proofs.widening.push_rows.Given as goal

abbrev pub invariant-loop : goal.invariant-loop
invariant-loop g l = record {
  so_far : l.out.items ++ each_block (repeated l.count) l.row (l.outer - l.counter) l.rest ≡ l.fn.out.items ++ each_block (repeated l.count) l.row l.outer l.cells;
  left : length l.rest ≡ (l.outer - l.counter) * l.row;
}
