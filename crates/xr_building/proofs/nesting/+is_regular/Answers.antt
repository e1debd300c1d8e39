use Rattle.xr_building.proofs.Common.{Sequence, all_values, ap, arith, drop, false, is_list, length, meaning, sym, take, true, ◌-◌, ◌∙◌, is_regular}
use Rattle.xr_building.proofs.Items.{regular_when, not_regular, fails_at, passes}
use Rattle.xr_building.proofs.nesting.+is_regular.Goals as goal

pub returns-then-as_slice-size : goal.returns-then-as_slice-size
returns-then-as_slice-size t c = λ nodes.
    let m = is_list nodes c.args.value.now c.in-List.items c.in-List.is in
    sym (not_regular nodes (meaning nodes c.args.value.now) c.in-List.items.items c.args.shape.now m c.in-len1-up.len_at_least (λ e. c.if-as_slice-size.true (ap length c.as_slice.ensures.value ∙ e)))

pub returns-then-not-is_regular : goal.returns-then-not-is_regular
returns-then-not-is_regular t c = λ nodes.
    let m = is_list nodes c.args.value.now c.in-List.items c.in-List.is ∙ ap (λ us. Sequence (all_values nodes us)) (sym c.deref-item-items.ensures.value) in
    sym (regular_when nodes (meaning nodes c.args.value.now) c.deref-item-items.result.now c.args.shape.now m c.in-len1-up.len_at_least false (let f = c.if-as_slice-size.false in let v = ap length c.deref-item-items.ensures.value in let n = ap length c.as_slice.ensures.value in omega (arith, f, v, n))
    (fails_at (is_regular (take (length c.args.shape.now - 1) (drop 1 c.args.shape.now))) (meaning nodes) c.deref-item-items.result.now c.loop-item.item-index c.item-item.result c.loop-item-test.true c.item-item.is (sym (c.if-not-is_regular.ensures nodes)) (c.loop-item.invariant nodes)))

pub returns-after-loop-item : goal.returns-after-loop-item
returns-after-loop-item t c = λ nodes.
    let m = is_list nodes c.args.value.now c.in-List.items c.in-List.is ∙ ap (λ us. Sequence (all_values nodes us)) (sym c.deref-item-items.ensures.value) in
    sym (regular_when nodes (meaning nodes c.args.value.now) c.deref-item-items.result.now c.args.shape.now m c.in-len1-up.len_at_least true (let f = c.if-as_slice-size.false in let v = ap length c.deref-item-items.ensures.value in let n = ap length c.as_slice.ensures.value in omega (arith, f, v, n))
    (passes (is_regular (take (length c.args.shape.now - 1) (drop 1 c.args.shape.now))) (meaning nodes) c.deref-item-items.result.now c.loop-item.item-index (let f = c.loop-item-test.false in omega (arith, f)) (c.loop-item.invariant nodes)))
