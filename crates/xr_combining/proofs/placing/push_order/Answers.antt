use Rattle.std.proofs.Common.{◌≡◌, ◌∙◌, ap, map}
use Rattle.xr_operations.specs.Reductions.{place_in}
use Rattle.xr_combining.proofs.Placed.{order_placed, order_taken}
use Rattle.xr_combining.proofs.placing.push_order.Goals as goal

pub push-requires : goal.push-requires
push-requires c = order_taken c.args.plan.now c.args.dims.now c.args.part.now c.requires.can c.order_of-order.result (c.order_of-order.ensures ∙ ap (λ own. map (place_in own) c.args.dims.now) c.as_slice.ensures)

pub returns-clause-value : goal.returns-clause-value
returns-clause-value c =
    order_placed c.args.plan.now c.args.dims.now c.args.part.now c.requires.can c.order_of-order.result (c.order_of-order.ensures ∙ ap (λ own. map (place_in own) c.args.dims.now) c.as_slice.ensures) c.push.new.self c.in_ok-node.node c.in_ok-node.ensures.ok
