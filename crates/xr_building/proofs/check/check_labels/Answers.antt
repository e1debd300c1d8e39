use Rattle.xr_building.proofs.Common.{Answers, Array, DataArray, Sequence, all_values, ap, array_in, check_labels, is_array, is_list, subst, sym, ◌∙◌}
use Rattle.xr_building.proofs.check.check_labels.Goals as goal

pub returns-in-List : goal.returns-in-List
unfolding check_labels
returns-in-List c = λ nodes.
    subst (λ told. Answers (λ u. u) c.check_list.result told)
    (sym (ap (check_labels c.args.name.now) (is_list nodes c.args.value.now c.in-List.items c.in-List.is ∙ ap (λ us. Sequence (all_values nodes us)) (sym c.as_slice.ensures.value)))) (c.check_list.ensures nodes)

pub returns-in-Array : goal.returns-in-Array
returns-in-Array c = λ nodes.
    subst (λ told. Answers (λ u. u) c.check_index.result told) (sym (ap (check_labels c.args.name.now) (is_array nodes c.args.value.now c.in-Array.array c.in-Array.is)))
    (subst (λ (a : DataArray). Answers (λ u. u) c.check_index.result (check_labels c.args.name.now (Array (array_in nodes a)))) c.deref.ensures (c.check_index.ensures nodes))
