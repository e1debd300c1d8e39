use Rattle.std.proofs.Common.{◌||◌, ap}
use Rattle.row_folds.proofs.Steps.{any_more}
use Rattle.row_folds.proofs.accumulator.AnyNonzeroAccumulator.with.Goals as goal

pub returns : goal.returns
returns g c = λ before is. any_more before _ c.args.present (g.T.Elem.number c.args.cell) c.args.self.any _ is (ap (λ b. c.args.self.any || b) c.is_nonzero.ensures)
