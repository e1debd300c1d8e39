use Rattle.xr_changing.proofs.Common.{ap, axes_called, axis_names, rules, ◌∙◌}
use Rattle.xr_changing.proofs.Formed.{axes_renewed}
use Rattle.xr_changing.proofs.coords.changed_coord.Goals as goal

pub returns-clause-is : goal.returns-clause-is
returns-clause-is c =
    let news = c.args.news.now in
    let axes = c.in_ok-axes.ensures.is ∙ ap (axes_called news) (c.as_slice-2.ensures ∙ c.in_ok-names.ensures ∙ ap axis_names c.as_slice.ensures) ∙ axes_renewed c.args.changes.now news c.args.coord.now.axes c.requires in
    search rules
