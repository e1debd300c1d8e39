use Rattle.xr_building.proofs.Common.{Answers, Axis, SizeConflict, ap, array_in, axis_called, get_or, subst, sym, unless, ℕ, ◌==◌, ◌∙◌}
use Rattle.xr_building.proofs.Fitting.{along_total}
use Rattle.xr_building.proofs.placing.check_along.Goals as goal

pub returns : goal.returns
returns c = λ nodes is.
    let x = c.index-as_slice-0.result in
    subst (λ (n : ℕ). Answers (λ u. u) c.check_total.result (unless (n == (axis_called c.args.axes.now c.args.name.now).size) SizeConflict))
    (ap (λ (y : Axis). y.size) (sym c.index-as_slice-0.is) ∙ along_total (array_in nodes c.args.array.now) x is.formed c.requires.0 c.requires.1 (c.index-as_slice-0.is ∙ ap (λ xs. get_or xs 0 x) c.as_slice.ensures)) c.check_total.ensures
