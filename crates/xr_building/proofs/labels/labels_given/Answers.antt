use Rattle.xr_building.proofs.Common.{IfOk, Sequence, all_values, ap, fits_whole, is_list, labels_fit, subst, sym, ◌∙◌, ◌≡◌}
use Rattle.xr_building.proofs.labels.labels_given.Goals as goal

pub returns-in-List-clause-fits : goal.returns-in-List-clause-fits
returns-in-List-clause-fits c = λ nodes.
    subst (λ m. IfOk c.list_labels.result (λ l. labels_fit l ≡ fits_whole m)) (sym (is_list nodes c.args.value.now c.in-List.items c.in-List.is ∙ ap (λ us. Sequence (all_values nodes us)) (sym c.as_slice.ensures.value))) (c.list_labels.ensures.fits nodes)
