use Rattle.std.proofs.Common.{subst, sym}
use Rattle.xr_values.specs.Meaning.{given}
use Rattle.xr_reducing.specs.Reduced.{AnswersSetMade}
use Rattle.xr_reducing.proofs.AllVariables.{begun_in}
use Rattle.xr_reducing.proofs.RunningSums.{sums_begin}
use Rattle.xr_reducing.proofs.running.set_summed.Goals as goal

pub returns : goal.returns
returns c = λ nodes others is.
    subst (AnswersSetMade nodes c.frame_summed.result) (sym (sums_begin nodes c.args.on.now (given others c.args.args.now) c.in_ok-frame.frame is c.in_ok-frame.ensures))
    (c.frame_summed.ensures nodes others (begun_in nodes c.args.on.now c.in_ok-frame.frame is c.in_ok-frame.ensures))
