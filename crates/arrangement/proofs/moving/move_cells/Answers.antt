use Rattle.std.proofs.Common.{◌≤◌, ◌^◌, ◌∙◌, sym, subst, length, get_or, List, ℕ}
use Rattle.plan_core.specs.Strides.{moved_sizes, moved_point, AreMoved}
use Rattle.plan_core.proofs.Takes.{if_ok}
use Rattle.plan_core.proofs.Boxes.{none_arranged, own_small}
use Rattle.plan_core.proofs.Moves.{moving_some, moving_order, moving_here, moved_here}
use Rattle.arrangement.proofs.moving.move_cells.Goals as goal

pub returns-then-points-eq0 : goal.returns-then-points-eq0
returns-then-points-eq0 g c other =
    c.new.ensures.items ∙ sym (none_arranged c.args.shape.now (moved_sizes c.args.order.now c.args.shape.now) c.as_slice.result.now (moved_point c.args.order.now) c.points.result other c.args.cells.now (c.as_slice.ensures ∙ c.in_ok-sizes.ensures) c.points.ensures c.if-points-eq0.true)

pub own_strides-requires-clause-some : goal.own_strides-requires-clause-some
own_strides-requires-clause-some g c = moving_some c.args.shape.now c.args.order.now c.as_slice.result.now c.points.result c.requires.moving (c.as_slice.ensures ∙ c.in_ok-sizes.ensures) c.points.ensures c.if-points-eq0.false

pub moved_strides-requires-clause-order : goal.moved_strides-requires-clause-order
moved_strides-requires-clause-order g c = moving_order c.args.shape.now c.args.order.now c.deref.result.now c.requires.moving (c.deref.ensures.value ∙ c.in_ok-own.ensures)

pub moved_strides-requires-clause-small : goal.moved_strides-requires-clause-small
moved_strides-requires-clause-small g c k =
    let some = moving_some c.args.shape.now c.args.order.now c.as_slice.result.now c.points.result c.requires.moving (c.as_slice.ensures ∙ c.in_ok-sizes.ensures) c.points.ensures c.if-points-eq0.false in
    subst (λ (own : List ℕ). get_or own k 0 ≤ 2 ^ 50) (sym (c.deref.ensures.value ∙ c.in_ok-own.ensures)) (own_small c.args.shape.now (2 ^ 50) some c.requires.moving.few k)

pub strided_cells-requires-clause-inside : goal.strided_cells-requires-clause-inside
strided_cells-requires-clause-inside g c =
    moving_here c.args.shape.now c.args.order.now c.deref.result.now c.as_slice-2.result.now c.deref-2.result.now (length c.args.cells.now) c.requires.moving (c.as_slice-2.ensures ∙ c.in_ok-sizes.ensures) (c.deref.ensures.value ∙ c.in_ok-own.ensures)
    (subst (λ (ss : List ℕ). AreMoved c.args.order.now c.deref.result.now ss) (sym c.deref-2.ensures.value) c.in_ok-strides.ensures) c.requires.whole

pub returns : goal.returns
returns g c other =
    if_ok c.strided_cells.result _ _
    (λ v is. is ∙ moved_here c.args.shape.now c.args.order.now c.deref.result.now c.as_slice-2.result.now c.deref-2.result.now other c.args.cells.now (c.as_slice-2.ensures ∙ c.in_ok-sizes.ensures) (c.deref.ensures.value ∙ c.in_ok-own.ensures)
    (subst (λ (ss : List ℕ). AreMoved c.args.order.now c.deref.result.now ss) (sym c.deref-2.ensures.value) c.in_ok-strides.ensures))
    (c.strided_cells.ensures other)
