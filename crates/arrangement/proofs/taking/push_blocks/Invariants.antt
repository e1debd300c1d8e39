use Rattle.std.proofs.Common.{◌≡◌, ◌++◌, ◌-◌, ◌*◌, length}
use Rattle.plan_core.specs.Takes.{each_block, parts}
use Rattle.arrangement.proofs.taking.push_blocks.Given as goal

abbrev pub invariant-loop : goal.invariant-loop
invariant-loop g l = record {
  so_far : l.out.items ++ each_block (parts l.row l.from l.hole) l.width (l.outer - l.counter) l.rest ≡ l.fn.out.items ++ each_block (parts l.row l.from l.hole) l.width l.outer l.cells;
  left : length l.rest ≡ (l.outer - l.counter) * l.width;
}
