use Rattle.call_tests.proofs.building.args.Goals as goal

pub returns : goal.returns
returns c = λ nodes. c.in_ok-push.ensures nodes (c.in_ok-push_plain.ensures.inside nodes (c.new-args.ensures.inside nodes) (c.requires nodes)) (c.in_ok-texts.ensures nodes)
