use Rattle.xr_building.proofs.Common.{Sequence, all_values, ap, is_list, meaning, sym, ◌∙◌}
use Rattle.xr_building.proofs.Items.{first_none, first_some}
use Rattle.xr_building.proofs.nesting.first_item.Goals as goal

pub returns-in-empty : goal.returns-in-empty
returns-in-empty c = λ nodes.
    sym (first_none nodes (meaning nodes c.args.value.now) c.as_slice.result.now (is_list nodes c.args.value.now c.in-List.items c.in-List.is ∙ ap (λ us. Sequence (all_values nodes us)) (sym c.as_slice.ensures.value)) c.in-empty.len_below)

pub returns-in-len1-up : goal.returns-in-len1-up
returns-in-len1-up c = λ nodes.
    sym (first_some nodes (meaning nodes c.args.value.now) c.as_slice.result.now c.first-item.result (is_list nodes c.args.value.now c.in-List.items c.in-List.is ∙ ap (λ us. Sequence (all_values nodes us)) (sym c.as_slice.ensures.value)) c.in-len1-up.len_at_least c.first-item.is)
