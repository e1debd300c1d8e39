use Rattle.xr_grouping.proofs.methods.plain_array.Goals as goal

pub realize-requires : goal.realize-requires
realize-requires c = (c.in_ok-made.ensures c.args.plan.now c.args.plan.now c.requires.is).1
