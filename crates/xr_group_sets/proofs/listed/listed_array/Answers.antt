use Rattle.xr_group_sets.proofs.Filled.{plain_by, told_by}
use Rattle.xr_group_sets.proofs.listed.listed_array.Goals as goal

pub folded_array-requires-in-None-clause-fits : goal.folded_array-requires-in-None-clause-fits
folded_array-requires-in-None-clause-fits c = plain_by c.args.plan.now c.args.fold c.args.least c.args.changes.now c.args.fill c.args.on.now c.requires.inside c.requires.fits c.in-Empty.is c.in-None.is

pub returns-in-None-clause-is : goal.returns-in-None-clause-is
returns-in-None-clause-is c =
    told_by c.args.plan.now c.folded_array-in-None.new.plan c.args.fold c.args.least c.args.changes.now c.args.fill c.args.on.now c.folded_array-in-None.result c.requires.inside c.requires.fits c.in-Empty.is c.in-None.is c.folded_array-in-None.ensures.is
