use Rattle.std.proofs.Common.{◌≡◌, ◌<◌, ◌+◌, ◌%◌, ◌∙◌, ap, sym, subst, arith, length, get_or, List, ℕ}
use Rattle.std.specs.Prelude.{slice_set}
use Rattle.strided_block.proofs.Orders.{AreSoFar, at_order, order_below, none_so_far, more_so_far, all_so_far}
use Rattle.strided_block.proofs.axes.moved_steps.Goals as goal

pub loop-k-init : goal.loop-k-init
loop-k-init c = subst (λ (ss : List ℕ). AreSoFar c.args.order.now c.args.own.now ss 0) (sym c.zeros_for-steps.ensures) (none_so_far c.args.order.now c.args.own.now)

pub set-requires : goal.set-requires
set-requires c =
    let lt : at_order c.args.order.now c.loop-k.k < length c.args.order.now = order_below (length c.args.own.now) c.loop-k.k c.args.order.now c.requires.order c.loop-k-test.true in
    let at : c.position-at.result ≡ at_order c.args.order.now c.loop-k.k = c.position-at.ensures in
    let long = c.loop-k.invariant.long in
    omega (arith, lt, at, long)

pub loop-k-preserved : goal.loop-k-preserved
loop-k-preserved c =
    let at = c.position-at.result in let steps = c.loop-k.steps in
    let is : at ≡ at_order c.args.order.now c.loop-k.k = c.position-at.ensures in
    let old : c.number_of.result ≡ get_or steps at 0 = c.number_of.ensures ∙ ap (λ l. get_or l at 0) c.as_slice.ensures.value in
    let x = get_or c.args.own.now c.loop-k.k 0 in
    more_so_far c.args.order.now c.args.own.now steps _ c.loop-k.k c.requires.order c.loop-k-test.true c.loop-k.invariant
    (c.set.ensures ∙ ap (λ y. slice_set steps at ((y + x) % 18446744073709551616)) old ∙ ap (λ j. slice_set steps j ((get_or steps j 0 + x) % 18446744073709551616)) is)

pub returns : goal.returns
returns c = all_so_far c.args.order.now c.args.own.now c.loop-k.steps c.loop-k.k c.requires.order.0 c.loop-k-test.false c.loop-k.invariant
