use Rattle.plan_needs.specs.Trees.{takes_strips, is_spread}
use Rattle.plan_needs.proofs.Marks.{first_test, second_test}
use Rattle.plan_needs.proofs.sorts.takes_in_strips.Goals as goal

pub returns-then-takes_strips : goal.returns-then-takes_strips
returns-then-takes_strips c = first_test takes_strips c.args.nodes.now c.args.at c.index-nodes-at.result c.takes_strips.result (is_spread c.args.nodes.now c.args.at) c.requires.inside c.index-nodes-at.is c.takes_strips.ensures c.if-takes_strips.true

pub returns-else-takes_strips : goal.returns-else-takes_strips
returns-else-takes_strips c =
    second_test takes_strips c.args.nodes.now c.args.at c.index-nodes-at.result c.is_spread.result c.takes_strips.result (is_spread c.args.nodes.now c.args.at) c.requires.inside c.index-nodes-at.is c.takes_strips.ensures c.if-takes_strips.false c.is_spread.ensures
