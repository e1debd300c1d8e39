use Rattle.xr_building.proofs.Common.{ap, is_list, length, sym, ◌∙◌, item_count}
use Rattle.xr_building.proofs.Items.{item_count_list}
use Rattle.xr_building.proofs.nesting.item_count.Goals as goal

pub returns-in-List : goal.returns-in-List
returns-in-List c = λ nodes. ap length c.as_slice.ensures.value ∙ sym (ap item_count (is_list nodes c.args.value.now c.in-List.items c.in-List.is) ∙ item_count_list nodes c.in-List.items.items)
