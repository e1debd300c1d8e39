use Rattle.std.proofs.Common.{◌∙◌, subst, sym}
use Rattle.xr_values.specs.Meaning.{given}
use Rattle.xr_reducing.specs.Reduced.{AnswersSetMade}
use Rattle.xr_reducing.proofs.AllVariables.{begun_in, set_begins}
use Rattle.xr_reducing.proofs.sets.set_reduced.Goals as goal

pub returns : goal.returns
returns c = λ nodes others is.
    subst (AnswersSetMade nodes c.frame_reduced.result) (sym (set_begins nodes c.args.fold c.args.on.now (given others c.args.args.now) c.in_ok-frame.frame is (sym c.is_positional.ensures ∙ c.if-is_positional.false) c.in_ok-frame.ensures))
    (c.frame_reduced.ensures nodes others (sym c.is_positional.ensures ∙ c.if-is_positional.false) (begun_in nodes c.args.on.now c.in_ok-frame.frame is c.in_ok-frame.ensures))
