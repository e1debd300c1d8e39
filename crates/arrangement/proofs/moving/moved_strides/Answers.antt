use Rattle.std.proofs.Common.{◌≡◌, ◌<◌, ◌+◌, ◌∙◌, ap, sym, subst, arith, length, get_or, set, List, ℕ}
use Rattle.plan_core.proofs.Moves.{AreSoFar, at_order, order_below, none_so_far, more_so_far, all_so_far}
use Rattle.plan_core.proofs.Strides.{same_default}
use Rattle.arrangement.proofs.moving.moved_strides.Goals as goal

pub loop-k-init : goal.loop-k-init
loop-k-init c = subst (λ (ss : List ℕ). AreSoFar c.args.order.now c.args.own.now ss 0) (sym (c.in_ok-strides.ensures.items_if_clones_equal (λ y is. is))) (none_so_far c.args.order.now c.args.own.now)

pub index_mut-requires : goal.index_mut-requires
index_mut-requires c =
    let lt : at_order c.args.order.now c.loop-k.k < length c.args.order.now = order_below (length c.args.own.now) c.loop-k.k c.args.order.now c.requires.order c.loop-k-test.true in
    let at : c.position-at.result ≡ at_order c.args.order.now c.loop-k.k = c.position-at.ensures in
    let long = c.loop-k.invariant.long in
    let ok = c.loop-k.strides.ok in
    omega (arith, lt, at, long, ok)

pub overflow_add-index_mut : goal.overflow_add-index_mut
overflow_add-index_mut c =
    let at = c.position-at.result in
    let lt : at_order c.args.order.now c.loop-k.k < length c.args.order.now = order_below (length c.args.own.now) c.loop-k.k c.args.order.now c.requires.order c.loop-k-test.true in
    let is : at ≡ at_order c.args.order.now c.loop-k.k = c.position-at.ensures in
    let long = c.loop-k.invariant.long in
    let here : c.index_mut.result.now ≡ get_or c.loop-k.strides.items at 0 = c.index_mut.ensures.value ∙ same_default c.loop-k.strides.items at c.index_mut.result.now 0 (omega (arith, lt, is, long)) in
    let small = c.loop-k.invariant.small at in
    let more = c.requires.small c.loop-k.k in
    let axes = c.requires.axes in
    let order = c.requires.order.0 in
    let below = c.loop-k-test.true in
    omega (arith, here, small, more, axes, order, below)

pub loop-k-preserved : goal.loop-k-preserved
loop-k-preserved c =
    let at = c.position-at.result in
    let lt : at_order c.args.order.now c.loop-k.k < length c.args.order.now = order_below (length c.args.own.now) c.loop-k.k c.args.order.now c.requires.order c.loop-k-test.true in
    let is : at ≡ at_order c.args.order.now c.loop-k.k = c.position-at.ensures in
    let long = c.loop-k.invariant.long in
    let here : c.index_mut.result.now ≡ get_or c.loop-k.strides.items at 0 = c.index_mut.ensures.value ∙ same_default c.loop-k.strides.items at c.index_mut.result.now 0 (omega (arith, lt, is, long)) in
    let x = get_or c.args.own.now c.loop-k.k 0 in
    more_so_far c.args.order.now c.args.own.now c.loop-k.strides.items _ c.loop-k.k c.requires.order c.loop-k-test.true (c.requires.small c.loop-k.k) c.loop-k.invariant
    (ap (λ y. set c.loop-k.strides.items at (y + x)) here ∙ ap (λ j. set c.loop-k.strides.items j (get_or c.loop-k.strides.items j 0 + x)) is)

pub returns : goal.returns
returns c = all_so_far c.args.order.now c.args.own.now c.loop-k.strides.items c.loop-k.k c.requires.order.0 c.loop-k-test.false c.loop-k.invariant
