use Rattle.std.proofs.Common.{◌∙◌, ap}
use Rattle.xr_stacking.proofs.Joined.{inputs_each, inputs_join, inputs_some, seen}
use Rattle.xr_stacking.proofs.held.held_end_to_end.Goals as goal

pub concat-requires-clause-some : goal.concat-requires-clause-some
concat-requires-clause-some c =
    (inputs_some c.args.axis c.args.kind c.args.arrays.now c.as_slice-cast.result.now c.as_slice.result.now c.as_slice-2.result.now (c.as_slice-cast.ensures ∙ c.in_ok-cast.ensures) (c.as_slice.ensures ∙ c.in_ok-shapes.ensures) c.in_ok-joined_shape.ensures.line
    (ap seen c.as_slice-2.ensures ∙ c.in_ok-inputs.ensures))

pub concat-requires-clause-axis : goal.concat-requires-clause-axis
concat-requires-clause-axis c =
    let joined = inputs_join c.args.axis c.args.kind c.args.arrays.now c.as_slice-cast.result.now c.as_slice.result.now c.as_slice-2.result.now (c.as_slice-cast.ensures ∙ c.in_ok-cast.ensures) (c.as_slice.ensures ∙ c.in_ok-shapes.ensures) c.in_ok-joined_shape.ensures.line
    (ap seen c.as_slice-2.ensures ∙ c.in_ok-inputs.ensures) in
    joined.there

pub concat-requires-clause-each : goal.concat-requires-clause-each
concat-requires-clause-each c =
    (inputs_each c.args.axis c.args.kind c.args.arrays.now c.as_slice-cast.result.now c.as_slice.result.now c.as_slice-2.result.now (c.as_slice-cast.ensures ∙ c.in_ok-cast.ensures) (c.as_slice.ensures ∙ c.in_ok-shapes.ensures) c.in_ok-joined_shape.ensures.line
    (ap seen c.as_slice-2.ensures ∙ c.in_ok-inputs.ensures))

pub concat-requires-clause-small : goal.concat-requires-clause-small
concat-requires-clause-small c =
    let joined = inputs_join c.args.axis c.args.kind c.args.arrays.now c.as_slice-cast.result.now c.as_slice.result.now c.as_slice-2.result.now (c.as_slice-cast.ensures ∙ c.in_ok-cast.ensures) (c.as_slice.ensures ∙ c.in_ok-shapes.ensures) c.in_ok-joined_shape.ensures.line
    (ap seen c.as_slice-2.ensures ∙ c.in_ok-inputs.ensures) in
    joined.small
