use Rattle.std.proofs.Common.{◌∙◌, sym}
use Rattle.row_folds.specs.Rows.{shown}
use Rattle.row_folds.proofs.Results.{zipped_long}
use Rattle.row_folds.proofs.outcome.ChosenOutcome.len.Goals as goal

pub returns : goal.returns
returns g c = c.min.ensures ∙ sym (zipped_long (λ x. shown x.1.some (g.A.Extreme.extreme x.0)) c.args.self.rows.now c.args.self.some.now)
