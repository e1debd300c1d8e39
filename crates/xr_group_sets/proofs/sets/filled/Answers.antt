use Rattle.xr_group_sets.proofs.Told.{filled_told, listing_told}
use Rattle.xr_group_sets.proofs.sets.filled.Goals as goal

pub placed-requires : goal.placed-requires
placed-requires c =
    listing_told c.args.plan.now c.args.fold c.args.grouping.now c.args.changes.now c.args.fill c.args.on.now c.args.frame.now c.is_some.result c.least_of-least.result c.keeps_coords-keeps.result c.as_slice-own.result.now c.as_slice-vars.result.now c.requires
    c.is_some.ensures c.least_of-least.ensures c.keeps_coords-keeps.ensures c.as_slice-own.ensures c.as_slice-vars.ensures c.in_ok-check_filled.ensures (c.in_ok-check_ranges.ensures c.args.plan.now) (c.in_ok-check_points.ensures c.args.plan.now)

pub returns-clause-answers : goal.returns-clause-answers
returns-clause-answers c =
    filled_told c.args.plan.now c.args.fold c.args.grouping.now c.args.changes.now c.args.fill c.args.on.now c.args.frame.now c.is_some.result c.least_of-least.result c.keeps_coords-keeps.result c.as_slice-own.result.now c.as_slice-vars.result.now c.requires
    c.is_some.ensures c.least_of-least.ensures c.keeps_coords-keeps.ensures c.as_slice-own.ensures c.as_slice-vars.ensures c.in_ok-check_filled.ensures (c.in_ok-check_ranges.ensures c.args.plan.now) (c.in_ok-check_points.ensures c.args.plan.now)
    c.placed.new.plan c.in_ok-set.set c.in_ok-set.ensures.set
