use Rattle.xr_building.proofs.Common.{ap, no_values, numbers_in, rules, sym, ◌∙◌}
use Rattle.xr_building.proofs.Items.{number_on}
use Rattle.xr_building.proofs.labels.numbers_in.Goals as goal

pub loop-value-init : goal.loop-value-init
loop-value-init c = λ nodes. c.new-numbers.ensures ∙ ap numbers_in (sym (no_values nodes))

pub loop-value-preserved : goal.loop-value-preserved
loop-value-preserved c = λ nodes.
    let on = number_on nodes c.args.list.now c.loop-value.value-index c.value-item.result c.number_in.result c.loop-value.numbers c.match-number_in.numbers c.loop-value-test.true c.value-item.is (c.number_in.ensures nodes) (c.loop-value.invariant nodes) in
    elim c.match-number_in.branch [
      | goal.in-Some+in_ok-push-in-Some w ↦ on (search rules)
      | goal.in-None w ↦ on (search rules)
    ]
