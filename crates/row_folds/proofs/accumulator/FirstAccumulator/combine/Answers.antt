use Rattle.row_folds.proofs.Joined.{first_both}
use Rattle.row_folds.proofs.accumulator.FirstAccumulator.combine.Goals as goal

pub returns-else-self : goal.returns-else-self
returns-else-self g c = λ a b is_a is_b. first_both a b c.args.self.some c.args.after.some (g.T.Elem.number c.args.self.number) (g.T.Elem.number c.args.after.number) is_a is_b c.if-self.false
