use Rattle.xr_building.proofs.Common.{Answers, DataArray, all_of, ap, array_in, is_array, is_there, subst, sym, ◌∙◌}
use Rattle.xr_building.proofs.Checked.{place_of_array}
use Rattle.xr_building.proofs.check.check_place.Goals as goal

pub returns-in-Array : goal.returns-in-Array
returns-in-Array c = λ nodes.
    subst (λ told. Answers (λ u. u) c.check_axes_there.result told)
    (sym (place_of_array c.args.axes.now c.args.entry.now.0 _ (array_in nodes c.in-Array.array.value) (is_array nodes c.args.entry.now.1 c.in-Array.array c.in-Array.is) ∙ ap (all_of (is_there c.args.axes.now)) (sym (c.as_slice.ensures ∙ ap (λ (a : DataArray). a.axes) c.deref.ensures)))) c.check_axes_there.ensures
