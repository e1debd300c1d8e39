use Rattle.std.proofs.Common.{refl}
use Rattle.row_folds.proofs.Joined.{any_both}
use Rattle.row_folds.proofs.accumulator.AnyNonzeroAccumulator.combine.Goals as goal

pub returns : goal.returns
returns g c = λ a b is_a is_b. any_both a b c.args.self.any c.args.after.any _ is_a is_b refl
