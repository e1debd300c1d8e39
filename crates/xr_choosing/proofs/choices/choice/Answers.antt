use Rattle.std.proofs.Common.{◌||◌, map, ◌∙◌}
use Rattle.xr_values.specs.declared.data_array.DataArray.{DataArray}
use Rattle.std.proofs.Common.{Bor}
use Rattle.xr_choosing.proofs.ChoiceParts.{choice_by}
use Rattle.xr_choosing.proofs.choices.choice.Goals as goal

pub returns : goal.returns
returns c nodes are all =
    choice_by nodes c.args.method c.args.kind c.args.axes c.args.cond.now c.args.x c.args.y (map (λ (a : Bor DataArray). a.now) c.args.operands.now) are all
    c.has_cells-some.result c.as_slice.result.now c.as_slice-2.result.now c.as_slice-3.result.now c.in_ok-cells.cells c.in_ok-parts.parts c.any-masked.result
    c.as_slice.ensures c.as_slice-2.ensures c.as_slice-3.ensures c.has_cells-some.ensures.some c.has_cells-some.ensures.none c.in_ok-cells.ensures (c.in_ok-parts.ensures nodes)
    (c.any-masked.ensures ∙ (λ i. c.args.cond.now.masked || (c.may_miss.ensures nodes i || c.may_miss-2.ensures nodes i)))
