use Rattle.std.proofs.Common.{sym, ◌∙◌}
use Rattle.xr_arguments.proofs.Inside.{held_array}
use Rattle.xr_choosing.proofs.Conditions.{condition_refused}
use Rattle.xr_choosing.proofs.branches.as_condition.Goals as goal

pub returns-then-is_truths-clause-inside : goal.returns-then-is_truths-clause-inside
returns-then-is_truths-clause-inside c = λ nodes inside. held_array nodes c.args.value.now c.in-Array.array c.deref-then-is_truths.result.now c.in-Array.is c.deref-then-is_truths.ensures inside

pub returns-else-is_truths-clause-answers : goal.returns-else-is_truths-clause-answers
returns-else-is_truths-clause-answers c = λ nodes. condition_refused nodes c.args.value.now c.in-Array.array c.deref.result.now c.in-Array.is c.deref.ensures (sym c.is_truths.ensures ∙ c.if-is_truths.false)
