use Rattle.call_tests.proofs.building.told.Goals as goal

pub assign_to_array-requires-clause-given : goal.assign_to_array-requires-clause-given
assign_to_array-requires-clause-given g c = λ κs live. c.in_ok-args.ensures c.args.cx.now.plan c.requires.own (c.new.ensures.inside c.args.cx.now.plan)
