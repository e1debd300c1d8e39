use Rattle.plan_core.specs.Joins.{joined_row}
use Rattle.plan_core.proofs.Joins.{rows_more}
use Rattle.arrangement.proofs.join.push_rows.Goals as goal

pub loop-before-preserved : goal.loop-before-preserved
loop-before-preserved g c = rows_more (λ o. joined_row c.args.row c.args.outer o 0 c.args.counts.now c.args.cells.now) c.loop-before.before c.loop-before.out.items c.push_row.new.out.items c.args.out.now.items c.in_ok-push_row.ensures c.loop-before.invariant
