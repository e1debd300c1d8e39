use Rattle.xr_group_sets.proofs.Rolled.{asked_told, needs_some, room_told, windows_told}
use Rattle.xr_group_sets.proofs.windows.windowed_array.Goals as goal

pub window_folds-requires-clause-some : goal.window_folds-requires-clause-some
window_folds-requires-clause-some c = needs_some c.args.plan.now c.args.fold c.args.least c.args.changes.now c.args.fill c.args.on.now c.requires.inside c.requires.bare c.requires.fits

pub window_folds-requires-clause-asked : goal.window_folds-requires-clause-asked
window_folds-requires-clause-asked c =
    asked_told c.args.plan.now c.args.fold c.args.least c.args.changes.now c.args.fill c.args.on.now c.requires.inside c.requires.bare c.requires.fits c.in_ok-axes.axes c.as_slice.result.now c.in_ok-changes.changes c.as_slice.ensures c.in_ok-axes.ensures c.in_ok-changes.ensures

pub returns-clause-is : goal.returns-clause-is
returns-clause-is c =
    windows_told c.args.plan.now c.args.fold c.args.least c.args.changes.now c.args.fill c.args.on.now c.requires.inside c.requires.bare c.requires.fits c.window_folds.new.plan c.in_ok-array.array c.in_ok-changes.changes c.in_ok-changes.ensures
    c.in_ok-array.ensures.array

pub returns-clause-room : goal.returns-clause-room
returns-clause-room c =
    room_told c.args.plan.now c.args.fold c.args.least c.args.changes.now c.args.fill c.args.on.now c.requires.inside c.requires.bare c.requires.fits c.window_folds.new.plan c.in_ok-array.array c.in_ok-changes.changes c.in_ok-changes.ensures
    c.in_ok-array.ensures.array c.in_ok-array.ensures.cells
