use Rattle.std.proofs.Common.{arith}
use Rattle.plan_core.proofs.Plans.{grows_on}
use Rattle.xr_combining.proofs.Placed.{cast_low, cast_small, ordered_low, ordered_small, part_placed}
use Rattle.xr_combining.proofs.placing.push_part.Goals as goal

pub push_kind-requires-clause-small : goal.push_kind-requires-clause-small
push_kind-requires-clause-small c = ordered_small c.args.plan.now c.push_order.new.plan c.args.dims.now c.args.part.now c.in_ok-ordered.ordered c.requires.can c.in_ok-ordered.ensures.value

pub push_kind-requires-clause-low : goal.push_kind-requires-clause-low
push_kind-requires-clause-low c = let low = ordered_low c.args.plan.now c.push_order.new.plan c.args.dims.now c.args.part.now c.in_ok-ordered.ordered c.requires.can c.in_ok-ordered.ensures.value in omega arith

pub push_wide-requires-clause-small : goal.push_wide-requires-clause-small
push_wide-requires-clause-small c =
    cast_small c.push_order.new.plan c.push_kind.new.plan c.args.kind c.in_ok-ordered.ordered c.in_ok-cast.cast c.in_ok-cast.ensures.value
    (ordered_small c.args.plan.now c.push_order.new.plan c.args.dims.now c.args.part.now c.in_ok-ordered.ordered c.requires.can c.in_ok-ordered.ensures.value)

pub push_wide-requires-clause-low : goal.push_wide-requires-clause-low
push_wide-requires-clause-low c =
    cast_low c.push_order.new.plan c.push_kind.new.plan c.args.kind c.in_ok-ordered.ordered c.in_ok-cast.cast c.in_ok-cast.ensures.value
    (ordered_low c.args.plan.now c.push_order.new.plan c.args.dims.now c.args.part.now c.in_ok-ordered.ordered c.requires.can c.in_ok-ordered.ensures.value)

pub returns-clause-value : goal.returns-clause-value
returns-clause-value c =
    part_placed c.args.plan.now c.push_order.new.plan c.push_kind.new.plan c.push_wide.new.plan c.args.kind c.args.dims.now c.args.front c.args.part.now c.in_ok-ordered.ordered c.in_ok-cast.cast c.in_ok-node.node
    c.in_ok-ordered.ensures.value c.in_ok-cast.ensures.value c.in_ok-node.ensures.value

pub returns-clause-grows : goal.returns-clause-grows
returns-clause-grows c =
    grows_on c.args.plan.now c.push_order.new.plan c.push_wide.new.plan c.push_order.ensures.grows
    (grows_on c.push_order.new.plan c.push_kind.new.plan c.push_wide.new.plan c.push_kind.ensures.grows c.push_wide.ensures.grows)
