use Rattle.std.proofs.Common.{◌&&◌, not, ap}
use Rattle.row_folds.proofs.Steps.{all_more}
use Rattle.row_folds.proofs.accumulator.AllNonzeroAccumulator.with.Goals as goal

pub returns : goal.returns
returns g c = λ before is. all_more before _ c.args.present (g.T.Elem.number c.args.cell) c.args.self.all _ is (ap (λ b. c.args.self.all && not b) c.is_zero.ensures)
