use Rattle.row_folds.proofs.Reached.{gap_there}
use Rattle.row_folds.proofs.outcome.ReachedOutcome.gap.Goals as goal

pub returns : goal.returns
returns g c = gap_there g.A.Extreme.extreme c.args.self.rows.now c.args._i c.requires
