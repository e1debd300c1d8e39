use Rattle.row_folds.proofs.Joined.{last_both}
use Rattle.row_folds.proofs.accumulator.LastAccumulator.combine.Goals as goal

pub returns-else-after : goal.returns-else-after
returns-else-after g c = λ a b is_a is_b. last_both a b c.args.self.some c.args.after.some (g.T.Elem.number c.args.self.number) (g.T.Elem.number c.args.after.number) is_a is_b c.if-after.false
