use Rattle.std.proofs.Common.{option_map}
use Rattle.plan_core.proofs.Takes.{if_ok}
use Rattle.plan_core.proofs.Narrowing.{truths_here}
use Rattle.plan_whole.proofs.numbers.typed_numbers.Goals as goal

pub returns-in-Bool-clause-range : goal.returns-in-Bool-clause-range
returns-in-Bool-clause-range c =
    if_ok c.numbers_in.result _ _
    (λ v is. truths_here c.parts.result.0.now c.in-Bool.v c.as_slice.result.now (option_map (λ m. m.now) c.parts.result.1) c.args.typed.now.kind v.items c.in-Bool.is c.parts.ensures.range c.as_slice.ensures c.parts.ensures.kind is)
    c.numbers_in.ensures.cells
