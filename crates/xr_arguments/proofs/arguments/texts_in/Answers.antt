use Rattle.xr_arguments.proofs.Common.{arith, no_values, rules, texts_in}
use Rattle.xr_defs.specs.Arguments.{as_text}
use Rattle.xr_arguments.proofs.Listed.{read_on, text_err, texts_more}
use Rattle.xr_arguments.proofs.arguments.texts_in.Goals as goal

pub loop-value-init : goal.loop-value-init
unfolding texts_in
loop-value-init c = λ nodes. grind (arith, no_values)

pub returns-in_err-text : goal.returns-in_err-text
returns-in_err-text c = λ nodes. let h = c.loop-value.invariant nodes in let e = c.in_err-text.ensures nodes in grind (arith, text_err)

pub loop-value-preserved : goal.loop-value-preserved
loop-value-preserved c = λ nodes. let h = c.loop-value.invariant nodes in let e = c.in_ok-text.ensures nodes in read_on texts_in as_text texts_more nodes c.args.list.now c.loop-value.value-index c.value-item.result c.loop-value.out c.push.new.self c.in_ok-text.text.now (omega arith) c.value-item.is h e (search rules)
