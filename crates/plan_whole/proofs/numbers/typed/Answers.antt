use Rattle.std.proofs.Common.{subst}
use Rattle.std.specs.List.{All}
use Rattle.xr_arrays.specs.Arrays.{IsCell}
use Rattle.plan_core.proofs.Narrowing.{small_truths}
use Rattle.plan_whole.proofs.numbers.typed.Goals as goal

pub returns-in_ok-narrowed-in-Bool-clause-range : goal.returns-in_ok-narrowed-in-Bool-clause-range
returns-in_ok-narrowed-in-Bool-clause-range c = small_truths c.in_ok-narrowed-in-Bool.field-0 c.args.cells.now c.in_ok-narrowed-in-Bool.ensures (subst (λ k. All (IsCell k) c.args.cells.now) c.in-Bool.is c.requires)
