use Rattle.std.proofs.Common.{arith, rules}
use Rattle.xr_values.proofs.Meaning.{no_values}
use Rattle.xr_defs.specs.Selecting.{as_numbers}
use Rattle.xr_indexing.proofs.Numbers.{number_on, number_err}
use Rattle.xr_indexing.proofs.arguments.as_numbers.Goals as goal

pub loop-value-init : goal.loop-value-init
unfolding as_numbers
loop-value-init c = λ nodes. grind (arith, no_values)

pub returns-in_err-as_number : goal.returns-in_err-as_number
returns-in_err-as_number c = λ nodes. let h = c.loop-value.invariant nodes in let e = c.in_err-as_number.ensures nodes in grind (arith, number_err)

pub loop-value-preserved : goal.loop-value-preserved
loop-value-preserved c = λ nodes. let h = c.loop-value.invariant nodes in let e = c.in_ok-as_number.ensures nodes in number_on nodes c.args.list.now c.loop-value.value-index c.value-item.result c.loop-value.out c.push.new.self c.in_ok-as_number.field-0 (omega arith) c.value-item.is h e (search rules)
