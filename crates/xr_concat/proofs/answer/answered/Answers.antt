use Rattle.std.proofs.Common.{◌∙◌, map, sym}
use Rattle.xr_values.specs.Meaning.{meaning}
use Rattle.xr_concat.proofs.answer.answered.Goals as goal

pub returns-then-are_arrays : goal.returns-then-are_arrays
returns-then-are_arrays c = λ others. c.of_arrays.ensures others (sym (c.are_arrays.ensures others) ∙ c.if-are_arrays.true)

pub returns-else-are_arrays : goal.returns-else-are_arrays
returns-else-are_arrays c = λ others. c.of_sets.ensures (map (meaning others) c.args.values.now) (sym (c.are_arrays.ensures others) ∙ c.if-are_arrays.false)
