use Rattle.std.proofs.Common.{refl}
use Rattle.row_folds.proofs.Joined.{all_both}
use Rattle.row_folds.proofs.accumulator.AllNonzeroAccumulator.combine.Goals as goal

pub returns : goal.returns
returns g c = λ a b is_a is_b. all_both a b c.args.self.all c.args.after.all _ is_a is_b refl
