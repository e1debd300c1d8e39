use Rattle.xr_combine.proofs.Given.{fill_fixed}
use Rattle.xr_combine.proofs.call.fixed_fill.Goals as goal

pub returns-clause-fixed : goal.returns-clause-fixed
returns-clause-fixed c = fill_fixed c.args.value c.fill_given.result c.fill_given.ensures
