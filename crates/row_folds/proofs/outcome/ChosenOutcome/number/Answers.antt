use Rattle.std.proofs.Common.{◌<◌, ◌∙◌, arith, rules, sym, ap, length}
use Rattle.plan_core.specs.Arrangements.{filling}
use Rattle.row_folds.specs.Rows.{shown}
use Rattle.row_folds.proofs.Results.{zipped_long, zipped_at}
use Rattle.row_folds.proofs.outcome.ChosenOutcome.number.Goals as goal

pub bounds-self-i : goal.bounds-self-i
bounds-self-i g c = let e = zipped_long (λ x. shown x.1.some (g.A.Extreme.extreme x.0)) c.args.self.rows.now c.args.self.some.now in let r = c.requires in omega arith

pub offset_bounds-self-i : goal.offset_bounds-self-i
offset_bounds-self-i g c = let e = zipped_long (λ x. shown x.1.some (g.A.Extreme.extreme x.0)) c.args.self.rows.now c.args.self.some.now in let r = c.requires in let below : c.args.i < length c.args.self.rows.now = omega arith in search rules

pub bounds-self-i-2 : goal.bounds-self-i-2
bounds-self-i-2 g c = let e = zipped_long (λ x. shown x.1.some (g.A.Extreme.extreme x.0)) c.args.self.rows.now c.args.self.some.now in let r = c.requires in omega arith

pub returns : goal.returns
returns g c = c.number_or_zero.ensures ∙ ap filling (ap (shown _) c.extreme.ensures ∙ sym (zipped_at (λ x. shown x.1.some (g.A.Extreme.extreme x.0)) c.args.self.rows.now c.args.self.some.now c.args.i _ _ c.requires))
