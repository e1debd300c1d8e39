use Rattle.std.proofs.Common.{subst, sym}
use Rattle.xr_values.specs.Meaning.{given}
use Rattle.xr_reducing.proofs.AllVariables.{begun_in}
use Rattle.xr_moving.specs.Diffs.{asked}
use Rattle.xr_moving.specs.Sets.{AnswersSetMade}
use Rattle.xr_moving.proofs.SetDifferences.{diffs_begin}
use Rattle.xr_moving.proofs.set_diffs.typed_diff.Goals as goal

pub returns : goal.returns
returns c nodes others is =
    subst (AnswersSetMade nodes c.frame_differed.result) (sym (diffs_begin nodes c.args.on.now (given others c.args.args.now) c.in_ok-frame.frame (asked c.in_ok-asked.asked) is c.in_ok-frame.ensures (c.in_ok-asked.ensures others)))
    (c.frame_differed.ensures nodes (begun_in nodes c.args.on.now c.in_ok-frame.frame is c.in_ok-frame.ensures))
