use Rattle.xr_values.specs.Meaning.{given}
use Rattle.xr_reducing.proofs.AllVariables.{frame_answered}
use Rattle.xr_reducing.proofs.sets.frame_reduced.Goals as goal

pub returns : goal.returns
returns c = λ nodes others plain is.
    frame_answered nodes c.args.fold c.args.on.now c.args.frame.now (given others c.args.args.now) c.as_slice-axes.result.now c.as_slice-vars.result.now c.in_ok-names.names c.as_slice-names.result.now c.in_ok-made.made
    is plain c.as_slice-axes.ensures c.as_slice-vars.ensures (c.in_ok-names.ensures others) c.as_slice-names.ensures c.in_ok-check_each.ensures c.in_ok-check_each_size.ensures c.in_ok-made.ensures
