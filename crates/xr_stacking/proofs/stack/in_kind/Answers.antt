use Rattle.std.proofs.Common.{◌∙◌, false, sym}
use Rattle.xr_stacking.proofs.Brought.{one_there}
use Rattle.xr_stacking.proofs.Firsts.{always}
use Rattle.xr_stacking.proofs.Turned.{brought_is}
use Rattle.xr_stacking.proofs.stack.in_kind.Goals as goal

pub returns-clause-shape : goal.returns-clause-shape
returns-clause-shape c =
    always c.push_part.result (brought_is c.args.plan.now c.args.kind c.args.dims.now false c.args.part.now c.requires ∙ sym (c.same.ensures c.if-not-same.false ∙ c.as_slice.ensures ∙ c.in_ok-shape.ensures.shape))

pub returns-clause-there : goal.returns-clause-there
returns-clause-there c = λ full. always c.push_part.result (one_there c.args.plan.now c.args.kind c.args.dims.now false c.args.part.now c.nodes.ensures.fit c.requires c.in_ok-shape.ensures.turns full)
