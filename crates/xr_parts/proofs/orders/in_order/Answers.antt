use Rattle.xr_parts.proofs.Common.{IsNode, Reorder, subst, sym, values}
use Rattle.xr_parts.proofs.Turned.{turned_array, turned_fits}
use Rattle.xr_parts.proofs.Rooms.{node_added}
use Rattle.xr_parts.proofs.orders.in_order.Goals as goal

pub push-requires : goal.push-requires
push-requires c =
    subst (λ o. IsNode (values c.args.plan.now) (Reorder c.args.on.now.node o)) (sym c.from_slice.ensures) (turned_fits c.args.plan.now c.args.on.now c.args.order.now c.requires.array c.requires.order)

pub returns-clause-moved : goal.returns-clause-moved
returns-clause-moved c =
    turned_array c.args.plan.now c.args.on.now c.args.order.now c.requires.array c.requires.order c.push.new.self c.in_ok-node.node c.in_ok-array.array c.in_ok-axes.axes c.as_slice.result.now c.from_slice.result
    c.in_ok-array.ensures c.as_slice.ensures c.in_ok-axes.ensures c.from_slice.ensures c.in_ok-node.ensures.ok

pub returns-clause-room : goal.returns-clause-room
returns-clause-room c = node_added c.args.plan.now c.push.new.self (Reorder c.args.on.now.node c.from_slice.result) _ c.in_ok-node.ensures.ok (returns-clause-moved c).1
