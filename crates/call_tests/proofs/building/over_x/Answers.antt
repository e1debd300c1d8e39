use Rattle.call_tests.proofs.building.over_x.Goals as goal

pub array_written_out-requires-clause-given : goal.array_written_out-requires-clause-given
array_written_out-requires-clause-given g c = λ κs live. c.in_ok-given.ensures c.args.cx.now.plan

pub returns-in-Ok : goal.returns-in-Ok
returns-in-Ok g c = c.in-Ok.ensures.told.1

pub loop-cell-preserved : goal.loop-cell-preserved
loop-cell-preserved g c = λ nodes. c.in_ok-push_value.ensures nodes (c.loop-cell.invariant nodes) (c.cell_value.ensures nodes)
