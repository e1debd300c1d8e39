use Rattle.std.proofs.Common.{◌∙◌, false, map}
use Rattle.xr_arrays.specs.Nodes.{concatenated}
use Rattle.xr_joint.proofs.Firsts.{if_ok}
use Rattle.xr_merging.specs.Members.{piece_in}
use Rattle.xr_stacking.specs.Parts.{brought}
use Rattle.xr_concat.proofs.Members.{first_own, those}
use Rattle.xr_concat.proofs.Ways.{joint_ready, lengthened_is}
use Rattle.xr_concat.proofs.variables.lengthened.Goals as goal

pub returns-in_ok-node-in-len1-up-clause-is : goal.returns-in_ok-node-in-len1-up-clause-is
returns-in_ok-node-in-len1-up-clause-is c =
    let own = c.as_slice-dims.ensures ∙ first_own c.args.plan.now c.args.vars.now c.first-item.result c.in-len1-up.len_at_least c.first-item.is in
    if_ok c.variable_with.result
    (λ v made. lengthened_is c.args.plan.now c.end_to_end.new.plan c.args.dim.now c.args.name.now c.args.kind (those c.args.vars.now) c.args.parts.now c.requires.cells c.as_slice-dims.result.now own c.in_ok-node-in-len1-up.node v c.place_in-axis.result
    c.place_in-axis.ensures.place c.requires.along c.in_ok-node-in-len1-up.ensures.node c.in_ok-node-in-len1-up.ensures.kind made)
    (c.variable_with.ensures c.args.plan.now)

pub returns-in_ok-node-in-len1-up-clause-ready : goal.returns-in_ok-node-in-len1-up-clause-ready
returns-in_ok-node-in-len1-up-clause-ready c =
    if_ok c.variable_with.result
    (λ v made. joint_ready c.end_to_end.new.plan c.args.name.now c.as_slice-dims.result.now c.args.kind (map (piece_in c.args.plan.now) (those c.args.vars.now)) c.in_ok-node-in-len1-up.node
    (concatenated (map (brought c.args.plan.now c.args.kind c.as_slice-dims.result.now false) c.args.parts.now) c.place_in-axis.result) c.in_ok-node-in-len1-up.ensures.node c.in_ok-node-in-len1-up.ensures.kind v made c.args.axes.now c.as_slice.result.now
    c.in_ok-node-in-len1-up.ensures.shape (c.as_slice.ensures ∙ c.in_ok-sizes-in-len1-up.ensures) (λ bare. c.in_ok-node-in-len1-up.ensures.there (c.requires.cells.full bare)))
    (c.variable_with.ensures c.args.plan.now)
