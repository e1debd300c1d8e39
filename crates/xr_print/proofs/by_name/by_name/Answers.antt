use Rattle.std.proofs.Common.{◌≡◌, ◌-◌, length, map, ap, subst, arith, refl, ◌∙◌}
use Rattle.std.specs.List.{insert}
use Rattle.xr_defs.specs.Printing.{put_coord}
use Rattle.xr_print.specs.ByName.{coord_at}
use Rattle.xr_print.proofs.Orders.{all_inside, one_more_placed}
use Rattle.xr_print.proofs.by_name.by_name.Goals as goal

pub loop-done-preserved : goal.loop-done-preserved
loop-done-preserved c =
    let cs = c.args.coords.now in
    let i = length cs - 1 - c.loop-done.done in
    let placed = subst (λ order. map (coord_at cs) (insert order c.place_for-place.result i) ≡ put_coord (coord_at cs i) (map (coord_at cs) order)) c.as_slice.ensures.value c.place_for-place.ensures.placed in
    record {
      inside = all_inside (length cs) i c.place_for-place.result c.loop-done.order.items c.insert.new.self.items (omega (arith, c.loop-done-test.true)) c.in_ok-insert.ensures.items c.loop-done.invariant.inside;
      sorted = one_more_placed cs c.loop-done.order.items c.insert.new.self.items c.loop-done.done i c.loop-done-test.true refl (ap (map (coord_at cs)) c.in_ok-insert.ensures.items ∙ placed) c.loop-done.invariant.sorted;
    }
