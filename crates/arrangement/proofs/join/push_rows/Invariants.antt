use Rattle.std.proofs.Common.{◌≡◌, ◌++◌}
use Rattle.std.specs.List.{flat_map, range_with_len}
use Rattle.plan_core.specs.Joins.{joined_row}
use Rattle.arrangement.proofs.join.push_rows.Given as goal

abbrev pub invariant-loop-before : goal.invariant-loop-before
invariant-loop-before g l = l.out.items ≡ l.fn.out.items ++ flat_map (λ o. joined_row l.row l.outer o 0 l.counts l.cells) (range_with_len 0 l.before)
