use Rattle.xr_moving.proofs.set_moves.set_rolled.Goals as goal

pub realize_set-requires : goal.realize_set-requires
realize_set-requires c = (c.in_ok-made.ensures c.args.plan.now c.args.plan.now c.requires).1
