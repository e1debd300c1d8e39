use Rattle.xr_changing.proofs.Common.{rules, ◌∙◌}
use Rattle.xr_changing.proofs.Formed.{coords_renewed}
use Rattle.xr_changing.proofs.SetsPlaced.{set_fits, set_placed}
use Rattle.xr_changing.proofs.placing.set_placed.Goals as goal

pub changed_coords-requires : goal.changed_coords-requires
changed_coords-requires c =
    coords_renewed c.args.changes.now c.args.on.now.axes c.as_slice-own.result.now c.as_slice.result.now c.args.on.now.coords c.as_slice-coords.result.now c.as_slice-own.ensures c.as_slice-coords.ensures (c.as_slice.ensures ∙ c.in_ok-axes.ensures.is) c.requires.inside.formed.coords

pub realize_set-requires : goal.realize_set-requires
realize_set-requires c = set_fits c.args.plan.now c.args.changes.now c.args.fill c.args.on.now c.requires.inside (search rules) c.requires.within _ (search rules)

pub returns-clause-is : goal.returns-clause-is
returns-clause-is c =
    set_placed c.args.plan.now c.args.changes.now c.args.fill c.args.on.now c.requires.inside (search rules) c.requires.within _ (search rules) c.realize_set.new.plan c.in_ok-set.set c.in_ok-set.ensures.made c.in_ok-set.ensures.cells
