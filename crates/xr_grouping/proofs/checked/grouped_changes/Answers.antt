use Rattle.xr_grouping.proofs.Changed.{changes_formed}
use Rattle.xr_grouping.proofs.checked.grouped_changes.Goals as goal

pub returns-clause-changes : goal.returns-clause-changes
returns-clause-changes c =
    changes_formed c.args.axes.now c.args.coords.now c.args.others.now c.requires c.in_ok-changes.changes c.args.grouping.now c.in_ok-changes.ensures
