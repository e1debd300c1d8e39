use Rattle.xr_changing.proofs.Common.{ap, chosen, map, pos, shown, ◌∙◌}
use Rattle.xr_changing.proofs.NewAxes.{chosen_naturals}
use Rattle.xr_changing.proofs.axes.chosen_integers.Goals as goal

pub returns-in_ok-unsigned-in-Unsigned : goal.returns-in_ok-unsigned-in-Unsigned
returns-in_ok-unsigned-in-Unsigned c =
    let ps = shown c.args.from.now in
    c.in_ok-unsigned-in-Unsigned.ensures ∙ ap (map pos) (c.in_ok-chosen-in-Unsigned.ensures 0) ∙ chosen_naturals c.in-Unsigned.list.now ps ∙ ap (λ ns. chosen (pos 0) ns ps) c.in-Unsigned.ensures
