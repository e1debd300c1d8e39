use Rattle.std.proofs.Common.{pos, ◌∙◌, arith}
use Rattle.row_folds.specs.Rows.{shown}
use Rattle.row_folds.proofs.Results.{zipped_long, zipped_gap}
use Rattle.row_folds.proofs.outcome.ChosenOutcome.gap.Goals as goal

pub bounds-self-i : goal.bounds-self-i
bounds-self-i g c = let e = zipped_long (λ x. shown x.1.some (g.A.Extreme.extreme x.0)) c.args.self.rows.now c.args.self.some.now in let r = c.requires in omega arith

pub returns : goal.returns
returns g c = c.gap_of.ensures (pos 0) ∙ zipped_gap g.A.Extreme.extreme c.args.self.rows.now c.args.self.some.now c.args.i _ c.requires
