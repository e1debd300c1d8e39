use Rattle.std.proofs.Common.{◌∙◌, ap}
use Rattle.xr_operations.specs.Reductions.{feeds}
use Rattle.xr_values.specs.Meaning.{given}
use Rattle.xr_reducing.proofs.Reduced.{array_reduced}
use Rattle.xr_reducing.proofs.arrays.reduced_array.Goals as goal

pub returns : goal.returns
returns c = λ nodes is.
    let names = c.as_slice-names.result.now in
    let fed = c.in_ok-feeds.ensures ∙ ap (feeds names) (c.as_slice.ensures ∙ c.in_ok-dims.ensures) in
    array_reduced nodes c.args.fold c.args.on.now (given nodes c.args.args.now) c.as_slice-own.result.now c.as_slice-3.result.now c.in_ok-axes.axes c.in_ok-names.names names c.in_ok-feeds.feeds c.as_slice-2.result.now c.are_emptied.result c.in_ok-made.made
    is (search) (search) (c.in_ok-names.ensures nodes) (search) c.are_emptied.ensures c.in_ok-check_cells.ensures (c.as_slice-2.ensures ∙ fed) c.in_ok-check_count.ensures (c.as_slice-3.ensures ∙ c.in_ok-axes.ensures) c.in_ok-check_axes.ensures
    fed c.in_ok-axes.ensures c.in_ok-made.ensures
