use Rattle.xr_values.specs.Meaning.{given}
use Rattle.xr_reducing.proofs.RunningSums.{frame_summed}
use Rattle.xr_reducing.proofs.running.frame_summed.Goals as goal

pub returns : goal.returns
returns c = λ nodes others is.
    frame_summed nodes c.args.on.now c.args.frame.now (given others c.args.args.now) c.as_slice.result.now c.in_ok-name.name.now c.in_ok-made.made is c.as_slice.ensures (c.in_ok-name.ensures others) c.in_ok-made.ensures
