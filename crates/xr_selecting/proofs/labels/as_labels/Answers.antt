use Rattle.std.proofs.Common.{arith, rules}
use Rattle.xr_values.proofs.Meaning.{no_values}
use Rattle.xr_operations.specs.Selection.{as_labels}
use Rattle.xr_selecting.proofs.Lists.{label_on, label_err}
use Rattle.xr_selecting.proofs.labels.as_labels.Goals as goal

pub loop-value-init : goal.loop-value-init
unfolding as_labels
loop-value-init c = λ nodes. grind (arith, no_values)

pub returns-in_err-as_label : goal.returns-in_err-as_label
returns-in_err-as_label c = λ nodes. let h = c.loop-value.invariant nodes in let e = c.in_err-as_label.ensures nodes in grind (arith, label_err)

pub loop-value-preserved : goal.loop-value-preserved
loop-value-preserved c = λ nodes. let h = c.loop-value.invariant nodes in let e = c.in_ok-as_label.ensures nodes in label_on c.args.list.now nodes c.args.values.now c.loop-value.value-index c.value-item.result c.loop-value.out c.push.new.self c.in_ok-as_label.field-0 (omega arith) c.value-item.is h e (search rules)
