use Rattle.xr_building.proofs.Common.{Sequence, all_values, ap, arith, is_list, meaning, sym, ◌∙◌}
use Rattle.xr_building.proofs.Items.{gathered_none, gathered_on, gathered_all}
use Rattle.xr_building.proofs.elements.+gather.Goals as goal

pub loop-item-init : goal.loop-item-init
loop-item-init t c = λ nodes. gathered_none nodes c.args.out.now c.deref-item-items.result.now

pub loop-item-preserved : goal.loop-item-preserved
loop-item-preserved t c = λ nodes.
    gathered_on nodes c.args.out.now c.loop-item.out c.gather.new.out c.deref-item-items.result.now c.loop-item.item-index c.item-item.result c.loop-item-test.true c.item-item.is (c.loop-item.invariant nodes) (c.in_ok-gather-in-List.ensures nodes)

pub returns-after-loop-item : goal.returns-after-loop-item
returns-after-loop-item t c = λ nodes.
    gathered_all nodes c.args.out.now c.loop-item.out c.deref-item-items.result.now c.loop-item.item-index (meaning nodes c.args.value.now) (let f = c.loop-item-test.false in omega (arith, f)) (is_list nodes c.args.value.now c.in-List.items c.in-List.is ∙ ap (λ us. Sequence (all_values nodes us)) (sym c.deref-item-items.ensures.value)) (c.loop-item.invariant nodes)
