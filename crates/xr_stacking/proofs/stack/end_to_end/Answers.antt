use Rattle.std.proofs.Common.{◌∙◌, sym, subst}
use Rattle.xr_combining.specs.Placing.{CanJoin}
use Rattle.xr_stacking.proofs.Brought.{brought_nodes, parts_join, parts_kind, parts_shape, parts_there}
use Rattle.xr_stacking.proofs.stack.end_to_end.Goals as goal

pub push_concat-requires-clause-joined : goal.push_concat-requires-clause-joined
push_concat-requires-clause-joined c =
    let made = brought_nodes c.args.kind c.args.dims.now c.args.front c.args.plan.now c.push_parts.new.plan c.args.parts.now c.new-inputs.result c.push_parts.new.out c.new-inputs.ensures c.in_ok-push_parts.ensures.nodes in
    subst (CanJoin c.args.axis) (sym made.are) (parts_join c.args.plan.now c.args.kind c.args.dims.now c.args.front c.args.axis c.args.parts.now c.requires c.as_slice.result.now (c.as_slice.ensures ∙ c.in_ok-shapes.ensures.shapes) c.in_ok-shape.ensures.line)

pub returns-clause-shape : goal.returns-clause-shape
returns-clause-shape c =
    (parts_shape c.args.plan.now c.args.kind c.args.dims.now c.args.front c.args.axis c.args.parts.now c.requires c.as_slice.result.now (c.as_slice.ensures ∙ c.in_ok-shapes.ensures.shapes) c.in_ok-shape.ensures.line c.in_ok-shape.shape c.args.sizes.now
    c.in_ok-shape.ensures.shape (c.same.ensures c.if-not-same.false ∙ c.as_slice-2.ensures))

pub returns-clause-kind : goal.returns-clause-kind
returns-clause-kind c =
    (parts_kind c.args.plan.now c.args.kind c.args.dims.now c.args.front c.args.axis c.args.parts.now c.requires c.as_slice.result.now (c.as_slice.ensures ∙ c.in_ok-shapes.ensures.shapes) c.in_ok-shape.ensures.line)

pub returns-clause-there : goal.returns-clause-there
returns-clause-there c = λ full.
    (parts_there c.args.plan.now c.args.kind c.args.dims.now c.args.front c.args.axis c.args.parts.now c.requires c.as_slice.result.now (c.as_slice.ensures ∙ c.in_ok-shapes.ensures.shapes) c.in_ok-shape.ensures.line c.nodes.ensures.fit
    c.in_ok-shapes.ensures.turn full)
