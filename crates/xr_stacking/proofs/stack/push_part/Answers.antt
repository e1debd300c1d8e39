use Rattle.std.proofs.Common.{refl, ap, ◌∙◌}
use Rattle.xr_stacking.specs.Parts.{steps_to}
use Rattle.xr_stacking.proofs.Turned.{chain_fits}
use Rattle.xr_stacking.proofs.stack.push_part.Goals as goal

pub push_chain-requires : goal.push_chain-requires
push_chain-requires c =
    chain_fits c.args.plan.now c.args.kind c.args.dims.now c.args.front c.args.part.now c.requires.part _ refl
    (c.in_ok-steps.ensures ∙ ap (steps_to c.args.kind c.args.front) (c.as_slice.ensures ∙ c.in_ok-order.ensures)) c.requires.turns
