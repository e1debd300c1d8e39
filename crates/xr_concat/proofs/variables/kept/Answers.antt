use Rattle.std.proofs.Common.{◌∙◌, false, map}
use Rattle.xr_joint.proofs.Firsts.{first_holds, if_ok}
use Rattle.xr_merging.specs.Members.{piece_in}
use Rattle.xr_stacking.proofs.Turned.{kind_is}
use Rattle.xr_stacking.specs.Parts.{brought, HasAll, IsPart}
use Rattle.xr_concat.proofs.Members.{first_own, those}
use Rattle.xr_concat.proofs.Ways.{joint_ready, kept_is}
use Rattle.xr_concat.proofs.variables.kept.Goals as goal

pub in_kind-requires : goal.in_kind-requires
in_kind-requires c = (first_holds (IsPart c.args.plan.now) c.args.parts.now c.in_ok-part-in-len1-up.part.now c.in_ok-part-in-len1-up.ensures.some c.in_ok-part-in-len1-up.ensures.first c.requires.cells.parts).0

pub returns-in_ok-node-in-len1-up-clause-is : goal.returns-in_ok-node-in-len1-up-clause-is
returns-in_ok-node-in-len1-up-clause-is c =
    let own = c.as_slice-dims.ensures ∙ first_own c.args.plan.now c.args.vars.now c.first-item.result c.in-len1-up.len_at_least c.first-item.is in
    if_ok c.variable_with.result
    (λ v made. kept_is c.args.plan.now c.in_kind.new.plan c.args.dim.now c.args.name.now c.args.kind (those c.args.vars.now) c.args.parts.now c.requires.cells c.as_slice-dims.result.now own c.in_ok-node-in-len1-up.node v c.in_ok-part-in-len1-up.part.now
    c.in_ok-part-in-len1-up.ensures.some c.in_ok-part-in-len1-up.ensures.first c.requires.constant c.in_ok-node-in-len1-up.ensures.node (kind_is c.args.plan.now c.args.kind c.as_slice-dims.result.now false c.in_ok-part-in-len1-up.part.now) made)
    (c.variable_with.ensures c.args.plan.now)

pub returns-in_ok-node-in-len1-up-clause-ready : goal.returns-in_ok-node-in-len1-up-clause-ready
returns-in_ok-node-in-len1-up-clause-ready c =
    let old = c.args.plan.now in
    let part = c.in_ok-part-in-len1-up.part.now in
    if_ok c.variable_with.result
    (λ v made. joint_ready c.in_kind.new.plan c.args.name.now c.as_slice-dims.result.now c.args.kind (map (piece_in old) (those c.args.vars.now)) c.in_ok-node-in-len1-up.node (brought old c.args.kind c.as_slice-dims.result.now false part)
    c.in_ok-node-in-len1-up.ensures.node (kind_is old c.args.kind c.as_slice-dims.result.now false part) v made c.args.axes.now c.as_slice.result.now c.in_ok-node-in-len1-up.ensures.shape (c.as_slice.ensures ∙ c.in_ok-sizes-in-len1-up.ensures)
    (λ bare. c.in_ok-node-in-len1-up.ensures.there (first_holds (HasAll old) c.args.parts.now part c.in_ok-part-in-len1-up.ensures.some c.in_ok-part-in-len1-up.ensures.first (c.requires.cells.full bare)).0))
    (c.variable_with.ensures old)
