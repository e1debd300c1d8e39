use Rattle.std.proofs.Common.{refl, subst, sym}
use Rattle.xr_types.specs.Results.{Answers}
use Rattle.xr_values.specs.Meaning.{given}
use Rattle.xr_reducing.proofs.AllVariables.{begun_in}
use Rattle.xr_group_sets.proofs.Told.{frame_here, grouping_begins}
use Rattle.xr_group_sets.proofs.makers.set_grouping.Goals as goal

pub frame_grouping-requires : goal.frame_grouping-requires
frame_grouping-requires c =
    frame_here c.requires.0 c.args.on.now c.in_ok-frame.frame c.in_ok-frame.frame.axes c.args.on.now.coords (begun_in c.requires.0 c.args.on.now c.in_ok-frame.frame c.requires.1 c.in_ok-frame.ensures) refl refl

pub returns : goal.returns
returns c = λ nodes others is.
    subst (Answers (λ g. g) c.frame_grouping.result) (sym (grouping_begins nodes c.args.maker c.args.on.now (given others c.args.args.now) c.in_ok-frame.frame is c.in_ok-frame.ensures)) (c.frame_grouping.ensures others)
