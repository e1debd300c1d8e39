use Rattle.std.proofs.Common.{◌∙◌, ap}
use Rattle.xr_operations.specs.Reductions.{place_in}
use Rattle.xr_values.specs.Meaning.{given}
use Rattle.xr_reducing.proofs.RunningSums.{array_summed}
use Rattle.xr_reducing.proofs.running.cumsum_array.Goals as goal

pub returns : goal.returns
returns c = λ nodes is.
    array_summed nodes c.args.on.now (given nodes c.args.args.now) c.as_slice-axes.result.now c.in_ok-name.name.now c.place_in.result c.in_ok-made.made is (search) c.as_slice-axes.ensures (c.in_ok-name.ensures nodes)
    (c.place_in.ensures.place ∙ ap (λ ds. place_in ds c.in_ok-name.name.now) (c.as_slice.ensures ∙ c.in_ok-dims.ensures)) c.in_ok-made.ensures
