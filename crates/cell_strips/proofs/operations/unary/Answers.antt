use Rattle.plan_core.proofs.Valued.{unary_is}
use Rattle.cell_strips.proofs.operations.unary.Goals as goal

pub collect_strips-requires-clause-ready : goal.collect_strips-requires-clause-ready
collect_strips-requires-clause-ready c = record { array = c.requires.array; one = c.requires.one; gives = c.requires.gives; suits = c.requires.suits; few = c.requires.few }

pub collect_strips-requires-clause-array : goal.collect_strips-requires-clause-array
collect_strips-requires-clause-array c = unary_is c.args.op c.args.kind c.args.a.now c.requires.one c.requires.gives c.requires.array
