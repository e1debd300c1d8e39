use Rattle.xr_building.proofs.Common.{ap, meaning, option_map, or_absent, rules, sym, ◌∙◌, first_item, item_count, nested_shape}
use Rattle.xr_building.proofs.Items.{shape_on}
use Rattle.xr_building.proofs.nesting.nested_shape.Goals as goal

pub loop-preserved : goal.loop-preserved
loop-preserved c = λ nodes. elim c.match-at.branch [
  | goal.in-Some+in_ok-push-in-Some w ↦
      let m = ap (λ o. or_absent (option_map (λ v. meaning nodes v.now) o)) w.in-Some.is in
      shape_on c.args.depth c.loop.counter w.item_count.result c.loop.shape c.match-at.shape (nested_shape c.args.depth (meaning nodes c.args.value.now)) (or_absent (option_map (λ v. meaning nodes v.now) c.loop.at)) (or_absent (option_map (λ v. meaning nodes v.now) c.match-at.at))
      c.loop-test.true (search rules) (w.item_count.ensures nodes ∙ ap item_count (sym m)) (ap (λ o. or_absent (option_map (λ v. meaning nodes v.now) o)) w.at-is ∙ w.first_item-at.ensures nodes ∙ ap first_item (sym m)) (c.loop.invariant nodes)
  | goal.in-None+in_ok-push-in-None w ↦
      let m = ap (λ o. or_absent (option_map (λ v. meaning nodes v.now) o)) w.in-None.is in
      shape_on c.args.depth c.loop.counter 0 c.loop.shape c.match-at.shape (nested_shape c.args.depth (meaning nodes c.args.value.now)) (or_absent (option_map (λ v. meaning nodes v.now) c.loop.at)) (or_absent (option_map (λ v. meaning nodes v.now) c.match-at.at))
      c.loop-test.true (search rules) (ap item_count (sym m)) (ap (λ o. or_absent (option_map (λ v. meaning nodes v.now) o)) w.at-is ∙ m ∙ ap first_item (sym m)) (c.loop.invariant nodes)
]
