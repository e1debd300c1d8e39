use Rattle.std.proofs.Common.{◌≡◌, ◌++◌, ◌+◌, ◌*◌, ◌≤◌, drop, length}
use Rattle.plan_core.specs.Joins.{joined_row, joined_total}
use Rattle.arrangement.proofs.join.push_row.Given as goal

abbrev pub invariant-loop-count : goal.invariant-loop-count
invariant-loop-count g l = record {
  so_far : l.out.items ++ joined_row l.row l.outer l.before l.start (drop l.count-index l.counts) l.cells ≡ l.fn.out.items ++ joined_row l.row l.outer l.before 0 l.counts l.cells;
  left : l.start + l.outer * (joined_total (drop l.count-index l.counts) * l.row) ≤ length l.cells;
}
