use Rattle.std.proofs.Common.{◌∙◌}
use Rattle.xr_arrays.specs.Arrays.{kind_of, wide}
use Rattle.plan_core.proofs.Narrowing.{made_back}
use Rattle.plan_whole.proofs.numbers.array_of.Goals as goal

pub returns : goal.returns
returns c = c.of.ensures ∙ made_back c.args.kind (kind_of c.in_ok-typed.typed) c.args.shape (wide c.in_ok-typed.typed) c.args.cells.now c.in_ok-mask.mask c.in_ok-typed.ensures.kind c.in_ok-typed.ensures.numbers c.in_ok-mask.ensures
