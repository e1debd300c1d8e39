use Rattle.xr_building.proofs.Common.{Sequence, all_values, ap, arith, is_list, length, meaning, nat_tests, sym, ◌-◌, ◌∙◌, is_nested}
use Rattle.xr_building.proofs.Items.{nested_list, nested_none, fails_at, passes}
use Rattle.xr_building.proofs.nesting.+is_nested.Goals as goal

pub returns-then-not-is_nested : goal.returns-then-not-is_nested
returns-then-not-is_nested t c = λ nodes.
    let m = is_list nodes c.args.value.now c.in-List.items c.in-List.is ∙ ap (λ us. Sequence (all_values nodes us)) (sym c.deref-item-items.ensures.value) in
    sym (nested_list nodes (meaning nodes c.args.value.now) c.deref-item-items.result.now c.args.depth m (let f = c.if-depth-eq0.false in omega (arith, f)) (let lt = c.loop-item-test.true in omega (arith, lt))
    ∙ fails_at (is_nested (c.args.depth - 1)) (meaning nodes) c.deref-item-items.result.now c.loop-item.item-index c.item-item.result c.loop-item-test.true c.item-item.is (sym (c.if-not-is_nested.ensures nodes)) (c.loop-item.invariant nodes))

pub returns-after-loop-item : goal.returns-after-loop-item
returns-after-loop-item t c = λ nodes.
    let m = is_list nodes c.args.value.now c.in-List.items c.in-List.is ∙ ap (λ us. Sequence (all_values nodes us)) (sym c.deref-item-items.ensures.value) in
    sym (nested_list nodes (meaning nodes c.args.value.now) c.deref-item-items.result.now c.args.depth m (let f = c.if-depth-eq0.false in omega (arith, f)) (let f = c.if-is_empty.ensures in let v = ap length c.deref-item-items.ensures.value in grind (arith, nat_tests))
    ∙ passes (is_nested (c.args.depth - 1)) (meaning nodes) c.deref-item-items.result.now c.loop-item.item-index (let f = c.loop-item-test.false in omega (arith, f)) (c.loop-item.invariant nodes))

pub returns-then-is_empty : goal.returns-then-is_empty
returns-then-is_empty t c = λ nodes.
    sym (nested_none nodes (meaning nodes c.args.value.now) c.in-List.items.items c.args.depth (is_list nodes c.args.value.now c.in-List.items c.in-List.is) (let f = c.if-depth-eq0.false in omega (arith, f)) (let f = c.if-is_empty.ensures in grind (arith, nat_tests)))
