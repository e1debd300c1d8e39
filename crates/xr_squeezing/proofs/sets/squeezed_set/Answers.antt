use Rattle.std.proofs.Common.{rules}
use Rattle.xr_squeezing.proofs.Squeezed.{set_fits, set_space, set_told}
use Rattle.xr_squeezing.proofs.sets.squeezed_set.Goals as goal

pub realize_set-requires : goal.realize_set-requires
realize_set-requires c = set_fits c.args.plan.now c.args.gone.now c.args.on c.requires.inside (search rules) c.in_ok-axes.axes c.in_ok-coords.coords c.in_ok-vars.vars (search rules) (search rules) (search rules) c.requires.few

pub returns-clause-is : goal.returns-clause-is
returns-clause-is c = set_told c.args.plan.now c.args.gone.now c.args.on c.requires.inside (search rules) c.in_ok-axes.axes c.in_ok-coords.coords c.in_ok-vars.vars (search rules) (search rules) (search rules) c.realize_set.new.plan c.in_ok-set.set c.in_ok-set.ensures.made

pub returns-clause-space : goal.returns-clause-space
returns-clause-space c = set_space c.args.plan.now c.args.gone.now c.args.on c.requires.inside (search rules) c.in_ok-axes.axes c.in_ok-coords.coords c.in_ok-vars.vars (search rules) (search rules) (search rules) c.realize_set.new.plan c.in_ok-set.set c.in_ok-set.ensures.made c.in_ok-set.ensures.cells
